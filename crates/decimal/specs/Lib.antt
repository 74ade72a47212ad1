-- Numbers and words as text, for every call that writes one into a lent buffer. Read Text.
pub mod Text
pub mod Written
