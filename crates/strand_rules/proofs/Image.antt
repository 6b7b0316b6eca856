-- Serves images_follow_the_trace: a set's image, at one word and at all persistent words.
pub mod OneWord
pub mod AllWords
