-- One volume more is counted.
use Rattle.std.proofs.Common.{◌≡◌, ◌<◌, ◌+◌, ℕ, length, get_or, take, sym, ap, ◌∙◌, arith}
use Rattle.std.specs.Prelude.{sum_by}
use Rattle.std.proofs.lemmas.List.{take_all}
use Rattle.whatif.specs.declared.volume.Volume.{Volume}
use Rattle.whatif.specs.Machine as machine
use Rattle.whatif.specs.Stands.{IsAmong}
use Rattle.whatif.specs.Volumes.{store_in, volume_in}
use Rattle.whatif.proofs.Lists.{all_at, got_or}
use Rattle.whatif.proofs.Sums.{sum_mapped, sum_more}
use Rattle.whatif.proofs.machine.held_on.Goals as goal

pub loop-place-preserved : goal.loop-place-preserved
loop-place-preserved c =
    let i = c.loop-place.invariant in let vs = c.args.volumes.now in let k = c.loop-place.place in let d = c.index-volumes-place.result in let disk = c.args.disk in
    let lt : k < length vs = c.loop-place-test.true in
    let v = get_or vs k d in
    let among = all_at (IsAmong (length vs) c.args.asked) vs k v c.requires.volumes (got_or vs k d lt) in
    let next = among.next in let store = among.volume.store_ in let asked = c.requires.asked in
    let kept = c.kept_on.ensures.few v.next v.loggers.items store in let all = store.kept in
    let few = i.few_blocks in let many = i.few_segments in let whole = i.few_all in
    let from = c.from.ensures in let count = c.segments_on.type_inv in record {
      disk = i.disk;
      blocks = ap (λ (n : ℕ). n + c.kept_on.result) i.blocks ∙ ap (λ (n : ℕ). sum_by (λ (w : Volume). ((store_in w.store).shelf disk).kept) (take k vs) + n) c.kept_on.ensures.value
          ∙ sym (sum_more (λ (w : Volume). ((store_in w.store).shelf disk).kept) vs k d lt);
      segments = ap (λ (n : ℕ). n + c.from.result) i.segments ∙ ap (λ (n : ℕ). sum_by (λ (w : Volume). length ((store_in w.store).shelf disk).segments) (take k vs) + n) (c.from.ensures ∙ c.segments_on.ensures)
          ∙ sym (sum_more (λ (w : Volume). length ((store_in w.store).shelf disk).segments) vs k d lt);
      all = ap (λ (n : ℕ). n + v.store.kept) i.all ∙ sym (sum_more (λ (w : Volume). w.store.kept) vs k d lt);
      few_blocks = omega (arith, few, kept, next, asked);
      few_segments = omega (arith, many, from, count);
      few_all = omega (arith, whole, all, next, asked);
    }

pub returns : goal.returns
returns c =
    let i = c.loop-place.invariant in let vs = c.args.volumes.now in let disk = c.args.disk in
    let end : take c.loop-place.place vs ≡ vs = take_all c.loop-place.place vs c.loop-place-test.false in
    λ j. record {
      disk = i.disk j;
      blocks = (i.blocks ∙ ap (sum_by (λ (w : Volume). ((store_in w.store).shelf disk).kept)) end ∙ sym (sum_mapped (λ (w : machine.Volume). (w.store.shelf disk).kept) volume_in vs)) j;
      segments = (i.segments ∙ ap (sum_by (λ (w : Volume). length ((store_in w.store).shelf disk).segments)) end ∙ sym (sum_mapped (λ (w : machine.Volume). length (w.store.shelf disk).segments) volume_in vs)) j;
      all = (i.all ∙ ap (sum_by (λ (w : Volume). w.store.kept)) end ∙ sym (sum_mapped (λ (w : machine.Volume). w.store.kept) volume_in vs)) j;
    }
