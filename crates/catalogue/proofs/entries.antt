-- A catalogue and its words (Words), the place of a school's entry (Place).
pub mod Words
pub mod Place
