-- Laws of the rule table (src/rule.rt).
mod Table
pub mod CommonLaws
