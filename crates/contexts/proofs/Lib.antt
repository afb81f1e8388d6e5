pub mod BitsOfWords
