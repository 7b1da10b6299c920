use Rattle.request_turns.proofs.reply.reply_named.Given as goal

abbrev pub ghost-pick : goal.ghost-pick
ghost-pick g a = record { marker = record {}; items = g.items }
