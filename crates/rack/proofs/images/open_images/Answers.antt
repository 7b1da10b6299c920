use Rattle.rack.proofs.Basics.{◌≡◌, ◌<◌, length, sym, ◌∙◌, subst, arith, rules, length-map, length-set, slice_get_within, get_or_from_slice_get}
use Rattle.rack.proofs.Terms.{IsHome, VolumeConf, shape_in, HasSentOut, AreAsked}
use Rattle.rack.proofs.Places.{some_at}
use Rattle.rack.proofs.Asking.{asked_more, asked_later, none_asked}
use Rattle.rack.proofs.NewFaults.{same_faulty}
use Rattle.rack.proofs.ImagesSent.{others_same, others_then, back_others, sent_others, same_until, sent_on, none_sent, next_home, names_out, sent_same, all_back, all_whole, nothing_out, used_spindle}
use Rattle.rack.proofs.images.open_images.Goals as goal

pub returns-in_err-images-clause-err : goal.returns-in_err-images-clause-err
returns-in_err-images-clause-err g c = let back = nothing_out g.B.Part.Disk.tells (g.B.Bay.state c.args.bay.now) in search (rules, back)

pub loop-id-init : goal.loop-id-init
loop-id-init g c =
    record {
      asked = none_asked g.B.Part.Disk.tells g.B.Part.Disk.state c.args.config.now (g.B.Bay.state c.args.bay.now) _ c.in_ok-images.images c.in_ok-images.ensures;
      sent = subst (λ out. HasSentOut c.args.config.now out 0 (g.B.Bay.state c.args.bay.now) (g.B.Bay.state c.args.bay.now)) (sym c.in_ok-images.ensures.out.0) (none_sent c.args.config.now (g.B.Bay.state c.args.bay.now));
      said_room = let r = c.in_ok-images.ensures.said.1 in let l = c.len.ensures in omega (arith, r, c.args.config.now.volumes.ok.0, l);
      out_room = let r = c.in_ok-images.ensures.out.1 in let l = c.len.ensures in omega (arith, r, c.args.config.now.volumes.ok.0, l);
      fault_room = let r = c.in_ok-images.ensures.faults.1 in let l = c.len.ensures in omega (arith, r, c.args.config.now.volumes.ok.0, l);
      count = c.requires.count;
      spindles = c.requires.spindles;
    }

pub open_next-requires-clause-home : goal.open_next-requires-clause-home
open_next-requires-clause-home g c = λ v at.
    let within = slice_get_within c.args.config.now.volumes.items c.loop-id.id v at in
    let home = subst (λ (w : VolumeConf). IsHome w.name (g.B.Bay.state c.args.bay.now)) (get_or_from_slice_get c.args.config.now.volumes.items c.loop-id.id v v at) (c.requires.home c.loop-id.id v within) in
    next_home c.args.config.now c.requires.config c.loop-id.images.out.items c.loop-id.id v (g.B.Bay.state c.args.bay.now) (g.B.Bay.state c.loop-id.bay) c.loop-id.invariant.asked.out_count at home c.loop-id.invariant.sent

pub open_next-requires-clause-spindle : goal.open_next-requires-clause-spindle
open_next-requires-clause-spindle g c =
    c.loop-id.invariant.spindles.spindles c.loop-id.id c.index-spindles-id.result (omega (arith, c.loop-id-test.true, c.len-id-end.ensures, c.args.config.now.volumes.ok.0, c.loop-id.invariant.count))

pub open_next-requires-clause-passes : goal.open_next-requires-clause-passes
open_next-requires-clause-passes g c =
    let lt : c.loop-id.id < length c.loop-id.spindles = omega (arith, c.loop-id-test.true, c.len-id-end.ensures, c.args.config.now.volumes.ok.0, c.loop-id.invariant.count) in
    (c.loop-id.invariant.spindles.each c.loop-id.id c.index-spindles-id.result lt, c.loop-id.invariant.spindles.settled c.loop-id.id c.index-spindles-id.result lt)

pub returns-in-Err-clause-spindles : goal.returns-in-Err-clause-spindles
returns-in-Err-clause-spindles g c =
    let lt : c.loop-id.id < length c.loop-id.spindles = omega (arith, c.loop-id-test.true, c.len-id-end.ensures, c.args.config.now.volumes.ok.0, c.loop-id.invariant.count) in
    used_spindle (length c.args.config.now.volumes.items) c.args.config.now.timeout c.loop-id.spindles c.loop-id.id c.index-spindles-id.result c.open_next.new.spindle c.loop-id.invariant.spindles lt c.open_next.ensures.spindle c.open_next.ensures.passes

pub returns-clause-asked : goal.returns-clause-asked
returns-clause-asked g c =
    let all : c.loop-id.id ≡ length c.args.config.now.volumes.items = omega (arith, c.loop-id-test.false, c.len-id-end.ensures, c.args.config.now.volumes.ok.0, c.loop-id.auto.id-end) in
    subst (λ n. AreAsked g.B.Part.Disk.tells g.B.Part.Disk.state c.args.config.now (g.B.Bay.state c.args.bay.now) (g.B.Bay.state c.loop-id.bay) n c.loop-id.images) all c.loop-id.invariant.asked

pub returns-clause-out : goal.returns-clause-out
returns-clause-out g c =
    let all : c.loop-id.id ≡ length c.args.config.now.volumes.items = omega (arith, c.loop-id-test.false, c.len-id-end.ensures, c.args.config.now.volumes.ok.0, c.loop-id.auto.id-end) in
    subst (λ n. HasSentOut c.args.config.now c.loop-id.images.out.items n (g.B.Bay.state c.args.bay.now) (g.B.Bay.state c.loop-id.bay)) all c.loop-id.invariant.sent

pub give_back-requires-clause-count : goal.give_back-requires-clause-count
give_back-requires-clause-count g c =
    let m = length-map c.args.config.now.volumes.items (λ w. shape_in c.args.config.now w) in
    omega (arith, c.loop-id-test.true, c.len-id-end.ensures, c.args.config.now.volumes.ok.0, c.loop-id.invariant.asked.out_count, m)

pub give_back-requires-clause-images : goal.give_back-requires-clause-images
give_back-requires-clause-images g c = λ k s r shape here. (c.loop-id.invariant.asked.out k s r shape here).rest

pub give_back-requires-clause-whole : goal.give_back-requires-clause-whole
give_back-requires-clause-whole g c = all_whole g.B.Part.Disk.tells g.B.Part.Disk.state c.args.config.now (g.B.Bay.state c.args.bay.now) (g.B.Bay.state c.loop-id.bay) c.loop-id.id c.loop-id.images c.loop-id.invariant.asked
    (let t = c.loop-id-test.true in let l = c.len-id-end.ensures in let v = c.args.config.now.volumes.ok.0 in omega (arith, t, l, v))

pub give_back-requires-clause-out : goal.give_back-requires-clause-out
give_back-requires-clause-out g c = λ k v at there.
    let home = subst (λ (w : VolumeConf). IsHome w.name (g.B.Bay.state c.args.bay.now)) (get_or_from_slice_get c.args.config.now.volumes.items k v v at) (c.requires.home k v (slice_get_within c.args.config.now.volumes.items k v at)) in
    names_out c.args.config.now c.requires.config c.loop-id.images.out.items c.loop-id.id k v (g.B.Bay.state c.args.bay.now) (g.B.Bay.state c.open_next.new.bay) at there home
    (sent_same c.args.config.now c.loop-id.images.out.items c.loop-id.id (g.B.Bay.state c.args.bay.now) (g.B.Bay.state c.loop-id.bay) (g.B.Bay.state c.open_next.new.bay) c.loop-id.invariant.sent c.in-Err.ensures.err)

pub returns-in-Err-clause-err : goal.returns-in-Err-clause-err
returns-in-Err-clause-err g c =
    all_back g.B.Part.Disk.tells g.B.Part.Disk.state g.met.B.Part.Disk.told c.args.config.now (g.B.Bay.state c.args.bay.now) (g.B.Bay.state c.open_next.new.bay) (g.B.Bay.state c.give_back.new.bay) c.loop-id.id c.loop-id.images
    (asked_later g.B.Part.Disk.tells g.B.Part.Disk.state c.args.config.now (g.B.Bay.state c.args.bay.now) (g.B.Bay.state c.loop-id.bay) (g.B.Bay.state c.open_next.new.bay) c.loop-id.id c.loop-id.images c.in-Err.ensures.err.counts
    (same_faulty (g.B.Bay.state c.loop-id.bay).told (g.B.Bay.state c.open_next.new.bay).told c.in-Err.ensures.err.same) c.loop-id.invariant.asked)
    (sent_same c.args.config.now c.loop-id.images.out.items c.loop-id.id (g.B.Bay.state c.args.bay.now) (g.B.Bay.state c.loop-id.bay) (g.B.Bay.state c.open_next.new.bay) c.loop-id.invariant.sent c.in-Err.ensures.err) c.give_back.ensures.back c.requires.home c.give_back.ensures.home c.give_back.ensures.counts

pub loop-id-preserved : goal.loop-id-preserved
loop-id-preserved g c =
    let count = c.loop-id.invariant.count in
    let within : c.loop-id.id < length c.args.config.now.volumes.items = omega (arith, c.loop-id-test.true, c.len-id-end.ensures, c.args.config.now.volumes.ok.0) in
    let lt : c.loop-id.id < length c.loop-id.spindles = omega (arith, within, count) in
    let e = some_at c.args.config.now.volumes.items c.loop-id.id within in
    record {
      asked = asked_more g.B.Part.Disk.tells g.B.Part.Disk.state c.args.config.now (g.B.Bay.state c.args.bay.now) (g.B.Bay.state c.loop-id.bay) (g.B.Bay.state c.open_next.new.bay) c.loop-id.id c.loop-id.images c.push.new.self e.0 e.1 c.loop-id.invariant.asked
          (same_until c.args.config.now c.requires.config c.loop-id.images.out.items c.loop-id.id e.0 c.loop-id.invariant.asked.out_count e.1 (g.B.Bay.state c.args.bay.now).told (g.B.Bay.state c.loop-id.bay).told c.loop-id.invariant.sent.stayed) c.loop-id.invariant.sent.counts c.in-Ok.opened c.push.ensures c.in-Ok.ensures.opened c.in-Ok.ensures.refused;
      sent = sent_on c.args.config.now c.requires.config c.loop-id.images.out.items c.loop-id.id e.0 c.loop-id.invariant.asked.out_count e.1 g.B.Part.Disk.tells g.B.Part.Disk.state c.in-Ok.opened c.push.new.self.out.items (g.B.Bay.state c.args.bay.now) (g.B.Bay.state c.loop-id.bay) (g.B.Bay.state c.open_next.new.bay) c.loop-id.invariant.sent c.push.ensures.out.0 c.in-Ok.ensures.opened c.in-Ok.ensures.refused;
      said_room = let r = c.loop-id.invariant.said_room in let q = c.push.ensures.said.1 in omega (arith, r, q);
      out_room = let r = c.loop-id.invariant.out_room in let q = c.push.ensures.out.1 in omega (arith, r, q);
      fault_room = let r = c.loop-id.invariant.fault_room in let q = c.push.ensures.faults.1 in omega (arith, r, q);
      count = length-set c.loop-id.spindles c.loop-id.id c.open_next.new.spindle ∙ count;
      spindles = used_spindle (length c.args.config.now.volumes.items) c.args.config.now.timeout c.loop-id.spindles c.loop-id.id c.index-spindles-id.result c.open_next.new.spindle c.loop-id.invariant.spindles lt c.open_next.ensures.spindle c.open_next.ensures.passes;
    }

pub returns-in_err-images-clause-others : goal.returns-in_err-images-clause-others
returns-in_err-images-clause-others g c = others_same c.args.config.now (g.B.Bay.state c.args.bay.now).told

pub returns-in-Err-clause-others : goal.returns-in-Err-clause-others
returns-in-Err-clause-others g c =
    let sent = sent_same c.args.config.now c.loop-id.images.out.items c.loop-id.id (g.B.Bay.state c.args.bay.now) (g.B.Bay.state c.loop-id.bay) (g.B.Bay.state c.open_next.new.bay) c.loop-id.invariant.sent c.in-Err.ensures.err in
    others_then c.args.config.now (g.B.Bay.state c.args.bay.now).told (g.B.Bay.state c.open_next.new.bay).told (g.B.Bay.state c.give_back.new.bay).told (sent_others c.args.config.now c.loop-id.images.out.items c.loop-id.id (g.B.Bay.state c.args.bay.now) (g.B.Bay.state c.open_next.new.bay) sent) (back_others c.args.config.now _ g.B.Part.Disk.state (g.B.Bay.state c.open_next.new.bay).told (g.B.Bay.state c.give_back.new.bay).told c.give_back.ensures.back)

pub returns-clause-others : goal.returns-clause-others
returns-clause-others g c = sent_others c.args.config.now c.loop-id.images.out.items c.loop-id.id (g.B.Bay.state c.args.bay.now) (g.B.Bay.state c.loop-id.bay) c.loop-id.invariant.sent
