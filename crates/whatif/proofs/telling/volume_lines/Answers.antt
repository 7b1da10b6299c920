-- One volume more has its line.
use Rattle.std.proofs.Common.{◌≡◌, ◌<◌, ◌++◌, ℕ, length, Option, Some, sym, ap, subst, ◌∙◌, arith}
use Rattle.std.specs.List.{flat_map, range_with_len}
use Rattle.std.specs.Option.{option_map_or}
use Rattle.wol_model.specs.Journal.{SpindleState}
use Rattle.whatif.specs.Lines.{conf_at, nothing_used, used_at, used_of, volume_text}
use Rattle.whatif.specs.Waits.{helds, of_disk, of_volume}
use Rattle.whatif.proofs.Lined.{disk_found, lines_more}
use Rattle.whatif.proofs.Lists.{got_or}
use Rattle.whatif.proofs.Sums.{moment_at}
use Rattle.whatif.proofs.telling.volume_lines.Goals as goal

pub used_until-used-requires-clause-to : goal.used_until-used-requires-clause-to
used_until-used-requires-clause-to c = moment_at c.args.disks.now c.loop-place.place c.args.to _ (let lt = c.loop-place-test.true in let same = c.requires.disks in omega (arith, lt, same)) c.requires.moments

pub loop-place-preserved : goal.loop-place-preserved
loop-place-preserved c = λ wake ss ws are each held.
    let vs = c.args.volumes.now in let k = c.loop-place.place in let powers = c.args.powers.now in let to = c.args.to in
    let lt : k < length vs = c.loop-place-test.true in
    let of_disks : k < length c.args.disks.now = (let same = c.requires.disks in omega (arith, lt, same)) in
    let of_told : k < length c.args.told.now = (let same = c.requires.told in omega (arith, lt, same)) in
    let of_held : k < length c.args.held.now = (let same = c.requires.held in omega (arith, lt, same)) in
    let p = disk_found c.args.disks.now ss k _ of_disks are in
    let used : c.used_until-used.result ≡ used_at powers to ss k = c.used_until-used.ensures.value p.state p.is ∙ sym (ap (λ (o : Option SpindleState). option_map_or (used_of powers to) o nothing_used) p.at) in
    let v = c.index-volumes-place.result in
    let conf : Some v ≡ conf_at vs k = ap Some c.index-volumes-place.is ∙ sym (got_or vs k v lt) in
    lines_more (λ j. volume_text c.args.policy (conf_at vs j) (used_at powers to ss j) wake (of_volume j ws) (of_disk j (helds ws))) k c.args.out.now.items c.loop-place.out.items c.volume_line.new.out.items (c.loop-place.invariant wake ss ws are each held)
    (c.in_ok-volume_line.ensures.ok wake (of_volume k ws) (of_disk k (helds ws)) (each k _ of_told) (held k _ of_held)
    ∙ (λ i. c.loop-place.out.items ++ volume_text c.args.policy (conf i) (used i) wake (of_volume k ws) (of_disk k (helds ws))))

pub returns : goal.returns
returns c = λ wake ss ws are each held.
    let end : c.loop-place.place ≡ length c.args.volumes.now = (let a = c.loop-place-test.false in let b = c.loop-place.auto.place-end in omega (arith, a, b)) in
    subst (λ (n : ℕ). c.loop-place.out.items ≡ c.args.out.now.items ++ flat_map (λ k. volume_text c.args.policy (conf_at c.args.volumes.now k) (used_at c.args.powers.now c.args.to ss k) wake (of_volume k ws) (of_disk k (helds ws))) (range_with_len 0 n)) end
    (c.loop-place.invariant wake ss ws are each held)
