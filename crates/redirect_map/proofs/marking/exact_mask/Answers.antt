use Rattle.std.proofs.Common.{nat_eq, not, ◌∙◌, ◌&&◌, ◌||◌, true, false}
use Rattle.std.specs.HashMap.{get}
use Rattle.std.proofs.lemmas.Bool.{and_parts}
use Rattle.block_cells.specs.Cells.{is_held}
use Rattle.redirect_map.specs.Kept.{keeps}
use Rattle.redirect_map.specs.Marked.{is_home, is_due_of, goes_of}
use Rattle.redirect_map.proofs.Dues.{kept_in_range}
use Rattle.redirect_map.proofs.marking.exact_mask.Goals as goal

pub returns : goal.returns
returns c = record {
  there = c.record_mask.ensures.there;
  due = λ b on. c.record_mask.ensures.due (c.any_sought-due.ensures ∙ kept_in_range c.args.entry.now (λ b. is_due_of c.args.entry.now b (get nat_eq c.args.blocks.now b)) b c.requires
      (and_parts (keeps c.args.entry.now b) (is_held c.args.entry.now.record.version false (get nat_eq c.args.blocks.now b) && not (is_home c.args.entry.now b)) on).0 on);
  going = λ b on. c.record_mask.ensures.going (c.any_sought-going.ensures ∙ kept_in_range c.args.entry.now (λ b. goes_of c.args.entry.now b (get nat_eq c.args.blocks.now b)) b c.requires
      (and_parts (keeps c.args.entry.now b) (not (is_held c.args.entry.now.record.version false (get nat_eq c.args.blocks.now b)) || (is_home c.args.entry.now b && is_held c.args.entry.now.record.version true (get nat_eq c.args.blocks.now b))) on).0 on);
}
