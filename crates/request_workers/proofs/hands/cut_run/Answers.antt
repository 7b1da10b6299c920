use Rattle.std.proofs.Common.{rules, ◌≡◌, ◌++◌, ◌∷◌, [], List, reverse, ap, sym, ◌∙◌, append_assoc, arith}
use Rattle.std.proofs.lemmas.List.{reverse-append}
use Rattle.window_desks.specs.declared.desk.Desk.{Desk}
use Rattle.request_workers.proofs.hands.cut_run.Goals as goal

pub loop-preserved : goal.loop-preserved
loop-preserved g c =
    let i = c.loop.invariant in let d = c.in-Some.desk in
    let left = c.pop.new.self.items in let room = c.loop.room.items in
    let back : reverse c.push_reserved.new.self.items ≡ d ∷ reverse room = ap reverse c.push_reserved.ensures.items ∙ reverse-append room (d ∷ []) in
    let pushed = c.push_reserved.ensures.len in let popped = c.in-Some.ensures.cases in let moved = i.moved in let rest = i.left in
    record {
      cut = i.cut ∙ (ap (λ (xs : List (Desk g.row.D.Denot)). xs ++ reverse room) c.in-Some.ensures.items ∙ (append_assoc left (d ∷ []) (reverse room) ∙ ap (λ (xs : List (Desk g.row.D.Denot)). left ++ xs) (sym back)));
      moved = omega (arith, pushed, moved);
      left = omega (arith, popped, rest);
      room = c.pop.ensures.capacity ∙ i.room;
      space = c.push_reserved.ensures.capacity ∙ i.space;
    }
