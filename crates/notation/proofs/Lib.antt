-- The lemmas behind the text forms.
pub mod Numbers
