use Rattle.std.proofs.Common.{◌≡◌, true, None, length, take, ◌∙◌}
use Rattle.std.specs.Prelude.{replicate}
use Rattle.offload_policy.specs.declared.Room.TheVariants.{Unknown}
use Rattle.volume_parts.proofs.Elements.{take-replicate}
use Rattle.manager.proofs.manager.Manager.new.Goals as goal

pub returns : goal.returns
returns g c =
    let lanes = c.args.lanes in
    let long : c.len.result ≡ length lanes.items = c.len.ensures ∙ lanes.ok.0 in
    let wide : c.len-2.result ≡ length lanes.items = c.len-2.ensures ∙ lanes.ok.0 in
    let ups = c.truncate.ensures.items ∙ ((λ i. take (long i) (c.from-ups.ensures.0 i)) ∙ take-replicate true (length lanes.items) 16 c.requires.few) in
    let rooms = c.unasked-rooms.ensures ∙ (λ i. replicate (wide i) Unknown) in
    record {
      value = λ i. record {
        id = c.args.id;
        home = c.args.home;
        spindle = c.args.spindle;
        lanes = lanes;
        index = c.args.index;
        next = c.args.next;
        most = c.args.most;
        home_up = true;
        ups = record { items = ups i };
        rooms = record { items = rooms i };
        down = None;
      };
    }
