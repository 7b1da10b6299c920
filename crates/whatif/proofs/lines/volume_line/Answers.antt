-- The line tells what was told of the waits and of logs.
use Rattle.std.proofs.Common.{◌≡◌, ◌++◌, ℕ, List, map, refl, ap, subst, ◌∙◌}
use Rattle.std.specs.Prelude.{OnOk, decimal}
use Rattle.report.specs.Words.{line_of, word_of}
use Rattle.report.specs.declared.words.Word.{Word}
use Rattle.whatif.proofs.Lined.{cut_words, volume_told}
use Rattle.whatif.proofs.lines.volume_line.Goals as goal

pub returns-clause-ok : goal.returns-clause-ok
returns-clause-ok c = λ wake ws hs are most.
    subst (λ (l : List ℕ). OnOk c.append_line.result (c.append_line.new.out.items ≡ c.args.out.now.items ++ l))
    (ap (λ (l : List Word). line_of (map word_of l)) c.shown.ensures
    ∙ ap line_of (cut_words c.args.policy c.args.volume.now _ _ _ _ _ _ _ _ _ _ _ _ _ _ _ _ _ _ _ _ _ _ _ _ _ _ _ refl (ap decimal c.from.ensures))
    ∙ volume_told c.args.policy c.args.volume.now c.as_bytes.result.now c.name_of.result.now c.args.used.now wake ws hs c.args.told.now c.args.held.now c.waiting.result c.waiting-2.result are most c.as_bytes.ensures c.name_of.ensures c.waiting.ensures c.waiting-2.ensures)
    c.append_line.ensures.ok
