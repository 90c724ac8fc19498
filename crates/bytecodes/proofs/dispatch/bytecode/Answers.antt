use Rattle.std.proofs.Common.{arith, pos, refl, ◌+◌}
use Rattle.blue_model.specs.Bytecodes.{arithmetic_send, block_send, bytecodes, double_extended, duplicate_top, extended_push, extended_store, extended_store_and_pop, from_to, is_block_class, is_context_class, jump_on, literal_constant, literal_variable, long_jump, long_jump_on, next_from_to, next_only, only, push_active_context, push_known, push_number, push_of, push_receiver, receiver_variable, return_from_block, return_of, send_literal, send_literal_super, single_extended, store_and_pop, store_receiver_variable, store_temporary, temporary, tried_for}
use Rattle.blue_model.specs.Contexts.{jump, pop, pop_top}
use Rattle.blue_model.specs.Machine.{halt, known, register}
use Rattle.blue_model.specs.Sends.{special_send}
use Rattle.blue_model.specs.declared.cause.Cause.TheVariants.{Unused}
use Rattle.bytecodes.proofs.DispatchLaws.{dispatched}
use Rattle.contexts.proofs.Steps.{halt_serves}
use Rattle.long_names.specs.Names.{FALSE, NIL, TRUE}
use Rattle.long_names.specs.State.{RECEIVER}
use Rattle.bytecodes.proofs.dispatch.bytecode.Goals as goal

pub returns-in-120-clause-serves : goal.returns-in-120-clause-serves
unfolding bytecodes
returns-in-120-clause-serves g c = dispatched c.args.events.now c.args.byte 11 (only 120 (return_of c.args.events.now (register RECEIVER))) (omega arith) refl refl (omega arith) (omega arith) c.return_receiver.ensures.serves

pub returns-in-121-clause-serves : goal.returns-in-121-clause-serves
unfolding bytecodes
returns-in-121-clause-serves g c = dispatched c.args.events.now c.args.byte 12 (only 121 (return_of c.args.events.now (known TRUE))) (omega arith) refl refl (omega arith) (omega arith) c.return_known.ensures.serves

pub returns-in-122-clause-serves : goal.returns-in-122-clause-serves
unfolding bytecodes
returns-in-122-clause-serves g c = dispatched c.args.events.now c.args.byte 13 (only 122 (return_of c.args.events.now (known FALSE))) (omega arith) refl refl (omega arith) (omega arith) c.return_known-in-122.ensures.serves

pub returns-in-123-clause-serves : goal.returns-in-123-clause-serves
unfolding bytecodes
returns-in-123-clause-serves g c = dispatched c.args.events.now c.args.byte 14 (only 123 (return_of c.args.events.now (known NIL))) (omega arith) refl refl (omega arith) (omega arith) c.return_known-in-123.ensures.serves

pub returns-in-124-clause-serves : goal.returns-in-124-clause-serves
unfolding bytecodes
returns-in-124-clause-serves g c = dispatched c.args.events.now c.args.byte 15 (only 124 (return_of c.args.events.now pop_top)) (omega arith) refl refl (omega arith) (omega arith) c.return_top.ensures.serves

pub returns-in-125-clause-serves : goal.returns-in-125-clause-serves
unfolding bytecodes
returns-in-125-clause-serves g c = dispatched c.args.events.now c.args.byte 16 (only 125 (return_from_block c.args.events.now)) (omega arith) refl refl (omega arith) (omega arith) c.return_from_block.ensures.serves

pub returns-in-131-clause-serves : goal.returns-in-131-clause-serves
unfolding bytecodes
returns-in-131-clause-serves g c = dispatched c.args.events.now c.args.byte 21 (only 131 (single_extended (send_literal c.args.events.now))) (omega arith) refl refl (omega arith) (omega arith) c.single_extended_send.ensures.serves

pub returns-in-132-clause-serves : goal.returns-in-132-clause-serves
unfolding bytecodes
returns-in-132-clause-serves g c = dispatched c.args.events.now c.args.byte 22 (only 132 (double_extended (send_literal c.args.events.now))) (omega arith) refl refl (omega arith) (omega arith) c.double_extended_send.ensures.serves

pub returns-in-133-clause-serves : goal.returns-in-133-clause-serves
unfolding bytecodes
returns-in-133-clause-serves g c = dispatched c.args.events.now c.args.byte 23 (only 133 (single_extended (send_literal_super c.args.events.now))) (omega arith) refl refl (omega arith) (omega arith) c.single_extended_super.ensures.serves

pub returns-in-134-clause-serves : goal.returns-in-134-clause-serves
unfolding bytecodes
returns-in-134-clause-serves g c = dispatched c.args.events.now c.args.byte 24 (only 134 (double_extended (send_literal_super c.args.events.now))) (omega arith) refl refl (omega arith) (omega arith) c.double_extended_super.ensures.serves

pub returns-in-152-to-159-clause-serves : goal.returns-in-152-to-159-clause-serves
unfolding bytecodes
returns-in-152-to-159-clause-serves g c = dispatched c.args.events.now c.args.byte 30 (from_to 152 159 (λ i. jump_on c.args.events.now FALSE TRUE (pos (i + 1)))) (omega arith) refl refl (omega arith) (omega arith) (rw c.from.ensures at c.jump_on.ensures.serves)

pub returns-in-168-to-171-clause-serves : goal.returns-in-168-to-171-clause-serves
unfolding bytecodes
returns-in-168-to-171-clause-serves g c = dispatched c.args.events.now c.args.byte 32 (from_to 168 171 (long_jump_on c.args.events.now TRUE FALSE)) (omega arith) refl refl (omega arith) (omega arith) (rw c.from-in-168-to-171.ensures at c.long_jump_on.ensures.serves)

pub returns-in-172-to-175-clause-serves : goal.returns-in-172-to-175-clause-serves
unfolding bytecodes
returns-in-172-to-175-clause-serves g c = dispatched c.args.events.now c.args.byte 33 (from_to 172 175 (long_jump_on c.args.events.now FALSE TRUE)) (omega arith) refl refl (grind arith) (omega arith) (rw c.from-in-172-to-175.ensures at c.long_jump_on-in-172-to-175.ensures.serves)

pub returns-in-176-to-191-clause-serves : goal.returns-in-176-to-191-clause-serves
unfolding bytecodes
returns-in-176-to-191-clause-serves g c = dispatched c.args.events.now c.args.byte 34 (from_to 176 191 (arithmetic_send c.args.events.now)) (omega arith) refl refl (omega arith) (omega arith) (rw c.from-in-176-to-191.ensures at c.arithmetic_send.ensures.serves)

pub returns-in-192-to-197-clause-serves : goal.returns-in-192-to-197-clause-serves
unfolding bytecodes
returns-in-192-to-197-clause-serves g c = dispatched c.args.events.now c.args.byte 35 (from_to 192 197 (λ i. special_send c.args.events.now (16 + i))) (omega arith) refl refl (omega arith) (omega arith) (rw c.from-in-192-to-197.ensures at c.special_send.ensures.serves)

pub returns-in-198-clause-serves : goal.returns-in-198-clause-serves
unfolding bytecodes
returns-in-198-clause-serves g c = dispatched c.args.events.now c.args.byte 36 (only 198 (tried_for c.args.events.now 110 1 22)) (omega arith) refl refl (omega arith) (omega arith) (c.tried_for.ensures.serves)

pub returns-in-199-clause-serves : goal.returns-in-199-clause-serves
unfolding bytecodes
returns-in-199-clause-serves g c = dispatched c.args.events.now c.args.byte 37 (only 199 (tried_for c.args.events.now 111 0 23)) (omega arith) refl refl (omega arith) (omega arith) (c.tried_for-in-199.ensures.serves)

pub returns-in-200-clause-serves : goal.returns-in-200-clause-serves
unfolding bytecodes
returns-in-200-clause-serves g c = dispatched c.args.events.now c.args.byte 38 (only 200 (block_send c.args.events.now 80 1 is_context_class 24)) (omega arith) refl refl (omega arith) (omega arith) (c.context_send.ensures.serves)

pub returns-in-201-clause-serves : goal.returns-in-201-clause-serves
unfolding bytecodes
returns-in-201-clause-serves g c = dispatched c.args.events.now c.args.byte 39 (only 201 (block_send c.args.events.now 81 0 is_block_class 25)) (omega arith) refl refl (omega arith) (omega arith) (c.block_send.ensures.serves)

pub returns-in-202-clause-serves : goal.returns-in-202-clause-serves
unfolding bytecodes
returns-in-202-clause-serves g c = dispatched c.args.events.now c.args.byte 40 (only 202 (block_send c.args.events.now 81 1 is_block_class 26)) (omega arith) refl refl (omega arith) (omega arith) (c.block_send-in-202.ensures.serves)

pub returns-in-203-to-207-clause-serves : goal.returns-in-203-to-207-clause-serves
unfolding bytecodes
returns-in-203-to-207-clause-serves g c = dispatched c.args.events.now c.args.byte 41 (from_to 203 207 (λ i. special_send c.args.events.now (27 + i))) (omega arith) refl refl (omega arith) (omega arith) (rw c.from-in-203-to-207.ensures at c.special_send-in-203-to-207.ensures.serves)

pub returns-in-208-to-223-clause-serves : goal.returns-in-208-to-223-clause-serves
unfolding bytecodes
returns-in-208-to-223-clause-serves g c = dispatched c.args.events.now c.args.byte 42 (from_to 208 223 (λ i. send_literal c.args.events.now i 0)) (omega arith) refl refl (omega arith) (omega arith) (rw c.from-in-208-to-223.ensures at c.send_literal.ensures.serves)

pub returns-in-224-to-239-clause-serves : goal.returns-in-224-to-239-clause-serves
unfolding bytecodes
returns-in-224-to-239-clause-serves g c = dispatched c.args.events.now c.args.byte 43 (from_to 224 239 (λ i. send_literal c.args.events.now i 1)) (omega arith) refl refl (omega arith) (omega arith) (rw c.from-in-224-to-239.ensures at c.send_literal-in-224-to-239.ensures.serves)

pub returns-in-240-to-255-clause-serves : goal.returns-in-240-to-255-clause-serves
unfolding bytecodes
returns-in-240-to-255-clause-serves g c = dispatched c.args.events.now c.args.byte 44 (from_to 240 255 (λ i. send_literal c.args.events.now i 2)) (omega arith) refl refl (grind arith) (omega arith) (rw c.from-in-240-to-255.ensures at c.send_literal-in-240-to-255.ensures.serves)
