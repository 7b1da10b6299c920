use Rattle.std.proofs.Common.{◌≡◌, ◌++◌, map, take}
use Rattle.report.specs.Words.{text_of, word_of}
use Rattle.report.proofs.words.put_words.Given as goal

abbrev pub invariant-loop-place : goal.invariant-loop-place
invariant-loop-place l = l.out.items ≡ l.initial.out.items ++ text_of (map word_of (take l.place l.words))
