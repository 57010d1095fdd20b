-- Laws of a state's words and of the fresh state (src/state.rt).
mod Opening
