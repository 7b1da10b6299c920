use Rattle.std.proofs.Common.{arith, ◌∙◌, ◌≡◌, ◌+◌, ◌-◌, ◌<◌, drop, length, length-append, length-drop, sym, ap, ℕ}
use Rattle.wol_io.specs.Memory.{SourceValue}
use Rattle.wol_io.proofs.Handed.{handed}
use Rattle.std.proofs.lemmas.List.{drop_all, length-take}
use Rattle.wol_io.proofs.memory.MemSourceSource.read.Goals as goal

pub returns-clause-content : goal.returns-clause-content
returns-clause-content c =
    let at = c.self.inside.at in
    let bytes = c.self.inside.bytes.items in
    let count = c.min-count.result in
    let e : at + count - at ≡ count = omega arith in
    let same : c.deref-2.result.now ≡ bytes = c.deref-2.ensures.value in
    let left : drop at bytes ≡ c.args.self.now.left = ap (λ (v : SourceValue). v.left) c.self.view_is in (
      sym left ∙ handed bytes c.copy_from_slice.new.self (drop count c.args.out.now) at count (omega arith) (rw (same, e) at c.copy_from_slice.ensures.after),
      λ none room. let room' : 0 < length c.args.out.now = omega (arith, length-append {A = ℕ}, length-drop {A = ℕ}, length-take {A = ℕ}, c.copy_from_slice.ensures.len, room) in drop_all _ bytes (omega (arith, room', none, c.next_cut-most.ensures.some)),
    )
