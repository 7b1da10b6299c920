use Rattle.inspection.proofs.Judging.{telling_failed, telling_order}
use Rattle.inspection.proofs.lines.append_open.Goals as goal

pub returns-in_ok-append_trouble : goal.returns-in_ok-append_trouble
returns-in_ok-append_trouble g c =
    let l = c.look_at.ensures in let t = c.in_ok-trouble.ensures.ok in
    record {
      same = l.same;
      others = l.others;
      ok = telling_failed _ _ _ _ _ _ _ c.look_at.result c.look_at.new.out.items c.append_trouble.new.out.items c.in_ok-trouble.trouble c.in-Some.trouble l.looks l.err t.0 c.in-Some.is c.in_ok-append_trouble.ensures.ok;
      err = tt;
    }

pub returns-in_default : goal.returns-in_default
returns-in_default g c =
    let l = c.look_at.ensures in let t = c.in_ok-trouble.ensures.ok in
    record {
      same = l.same;
      others = l.others;
      ok = telling_order _ _ _ _ _ _ _ c.look_at.result c.look_at.new.out.items c.in_ok-trouble.trouble l.looks t.0 t.1 c.in_default.is;
      err = tt;
    }
