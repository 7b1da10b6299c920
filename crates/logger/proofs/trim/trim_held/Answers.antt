use Rattle.std.proofs.Common.{◌≡◌, ◌<◌, is_ok, is_err, None, ap, ◌∙◌, sym, refl, subst, arith}
use Rattle.std.proofs.lemmas.Option.{same_Some}
use Rattle.std.proofs.lemmas.Result.{err_from_is_err_and, IfOk-from_err, on_err_weaker}
use Rattle.log_layout.specs.Values.{record_head}
use Rattle.log_segment.specs.Segment.{IsSegment, IsWhole, segment_volume, valid_of}
use Rattle.logger.specs.Lanes.{CutDown}
use Rattle.logger.specs.Trims.{Freed, NotFreed, stays, freed, could_not}
use Rattle.logger.specs.declared.lane.HeldSegment.{HeldSegment}
use Rattle.logger.proofs.Held.{there_get, within, get-set, remove-set, set-set}
use Rattle.logger.proofs.Trimming.{gave_up, stayed, cut_as}
use Rattle.logger.proofs.Results.{on_err}
use Rattle.logger.proofs.trim.trim_held.Goals as goal

pub returns-then-left_valid-gt0-clause-cut : goal.returns-then-left_valid-gt0-clause-cut
returns-then-left_valid-gt0-clause-cut g c =
    let s = c.requires.segment in let items = c.args.held.now.items in let p = c.args.place in let o = c.index_mut.result.now in let a = c.trim.ensures in let k = c.in_ok-trim.ensures in
    let there = there_get items p o (within items p s.segment s.there) c.index_mut.ensures.value in
    let n : HeldSegment g.row.D.Denot = record { index = o.index; segment = c.trim.new.self } in
    stays o n there refl a.shape refl (record {
      index = refl;
      same = a.same;
      end = a.place;
      ok = λ rs j r h at. k.ok rs j r h at.there at.position at.same_head;
      whole = k.whole;
      valid = omega (arith, k.valid, c.valid.ensures, c.left_valid.ensures, c.if-left_valid-gt0.true);
      fewer = k.valid;
      broken = tt;
      any_moment = λ rs j r h at. a.any_moment rs j r h at.there at.position at.same_head;
      cause = tt;
      calm = k.calm;
    })

pub free_held-requires : goal.free_held-requires
free_held-requires g c =
    let s = c.requires.segment in let items = c.args.held.now.items in let p = c.args.place in let o = c.index_mut.result.now in
    let there = there_get items p o (within items p s.segment s.there) c.index_mut.ensures.value in
    let is = same_Some s.segment o (sym s.there ∙ there) in record {
      segment = record {
        segment = o;
        there = get-set items p o o there;
        shape = subst (λ (h : HeldSegment g.row.D.Denot). IsSegment g.D.Disk.state h.segment) is s.shape;
        whole = subst (λ (h : HeldSegment g.row.D.Denot). IsWhole h.segment) is s.whole;
        volume = ap (λ (h : HeldSegment g.row.D.Denot). segment_volume h.segment) (sym is) ∙ s.volume;
      };
    }

pub returns-in_err-trim-clause-cut : goal.returns-in_err-trim-clause-cut
returns-in_err-trim-clause-cut g c =
    let s = c.requires.segment in let items = c.args.held.now.items in let p = c.args.place in let o = c.index_mut.result.now in let a = c.trim.ensures in let w = c.trim.result in let r = c.from_residual.result in
    let there = there_get items p o (within items p s.segment s.there) c.index_mut.ensures.value in
    let n : HeldSegment g.row.D.Denot = record { index = o.index; segment = c.trim.new.self } in
    let e = err_from_is_err_and r c.from_residual.ensures.1 in
    let cut : CutDown g.D.Disk.state o n c.args.pos (record_head c.args.head.now) c.args.keep w = record {
      index = refl;
      same = a.same;
      end = a.place;
      ok = λ rs j q h at. a.ok rs j q h at.there at.position at.same_head;
      whole = a.whole;
      valid = IfOk-from_err w (λ _. 0 < valid_of n.segment) (ap is_err c.in_err-trim.was);
      fewer = a.valid;
      broken = on_err_weaker w (λ b. b.broken) a.err;
      any_moment = λ rs j q h at. a.any_moment rs j q h at.there at.position at.same_head;
      cause = on_err w a.cause;
      calm = a.calm;
    } in
    stays o n there refl a.shape (IfOk-from_err r (λ x. x ≡ None) (ap is_err e.1)) (cut_as g.D.Disk.state o n c.args.pos (record_head c.args.head.now) c.args.keep w r (ap is_ok c.in_err-trim.was ∙ sym (ap is_ok e.1)) cut)

pub returns-in_err-freed-clause-cut : goal.returns-in_err-freed-clause-cut
returns-in_err-freed-clause-cut g c =
    let state = g.D.Disk.state in let s = c.requires.segment in let items = c.args.held.now.items in let p = c.args.place in let o = c.index_mut.result.now in
    let there = there_get items p o (within items p s.segment s.there) c.index_mut.ensures.value in
    let st = c.in_err-freed.ensures.err in
    let is = same_Some st.segment o (sym st.there ∙ get-set items p o o there) in
    could_not o st.after there (st.held ∙ set-set items p o st.after) st.stays.shape (ap is_err (err_from_is_err_and c.from_residual-in_err-freed.result c.from_residual-in_err-freed.ensures.1).1)
    (stayed state o st.after c.args.pos (record_head c.args.head.now) c.args.keep c.requires.keep
    (omega (arith, c.valid.ensures, c.left_valid.ensures, c.if-left_valid-gt0.false)) (subst (λ (h : HeldSegment g.row.D.Denot). NotFreed state h st.after) is st.stays))

pub returns-clause-cut : goal.returns-clause-cut
returns-clause-cut g c =
    let state = g.D.Disk.state in let s = c.requires.segment in let items = c.args.held.now.items in let p = c.args.place in let o = c.index_mut.result.now in
    let there = there_get items p o (within items p s.segment s.there) c.index_mut.ensures.value in
    let fr = c.in_ok-freed.ensures.ok in let f = c.in_ok-freed.freed in
    let is = same_Some fr.segment o (sym fr.there ∙ get-set items p o o there) in
    freed o f there (fr.gone ∙ remove-set items p o) refl (gave_up state o f c.args.pos (record_head c.args.head.now) c.args.keep c.requires.keep
    (omega (arith, c.valid.ensures, c.left_valid.ensures, c.if-left_valid-gt0.false)) (subst (λ (h : HeldSegment g.row.D.Denot). Freed state h f) is fr.freed))
