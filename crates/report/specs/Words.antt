-- Texts and lines of words.
use Rattle.std.specs.Prelude.{ℕ, List, ◌++◌, codes, decimal}
use Rattle.std.specs.List.{join_with_byte}
use Rattle.report.specs.declared.words.Word.{Word}
use Rattle.report.specs.declared.words.Word.TheVariants.{Text, Number, Large}

-- what is printed of a word
abbrev pub word_of : Word → List ℕ
word_of (Text text) = text.now
word_of (Number number) = decimal number
word_of (Large number) = decimal number

-- words with a space between each two
abbrev pub text_of : (words : List (List ℕ)) → List ℕ
text_of words = join_with_byte 32 words

-- a line of words
abbrev pub line_of : (words : List (List ℕ)) → List ℕ
line_of words = text_of words ++ codes "\n"
