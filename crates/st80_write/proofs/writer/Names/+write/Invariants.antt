use Rattle.st80_write.proofs.writer.Names.+write.Given as goal

abbrev pub decreases-put_node : goal.decreases-put_node
decreases-put_node l = l.depth

abbrev pub decreases-put_receiver : goal.decreases-put_receiver
decreases-put_receiver l = l.depth

abbrev pub decreases-put_message : goal.decreases-put_message
decreases-put_message l = l.depth

abbrev pub decreases-put_messages : goal.decreases-put_messages
decreases-put_messages l = l.depth

abbrev pub decreases-put_parts : goal.decreases-put_parts
decreases-put_parts l = l.depth

abbrev pub decreases-put_loop : goal.decreases-put_loop
decreases-put_loop l = l.depth

abbrev pub decreases-put_statements : goal.decreases-put_statements
decreases-put_statements l = l.depth
