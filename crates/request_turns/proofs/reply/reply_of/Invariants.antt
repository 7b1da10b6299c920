use Rattle.request_turns.proofs.reply.reply_of.Given as goal

abbrev pub ghost-reply_named : goal.ghost-reply_named
ghost-reply_named a = a._blocks.now
