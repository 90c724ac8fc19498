use Rattle.std.proofs.Common.{arith, pos, refl, ◌+◌}
use Rattle.blue_model.specs.Bytecodes.{bytecodes, duplicate_top, extended_push, extended_store, extended_store_and_pop, literal_constant, literal_variable, long_jump, next_from_to, next_only, push_active_context, push_known, push_number, push_of, push_receiver, receiver_variable, store_and_pop, store_receiver_variable, store_temporary, temporary}
use Rattle.blue_model.specs.Contexts.{jump, pop}
use Rattle.blue_model.specs.Machine.{halt}
use Rattle.blue_model.specs.declared.cause.Cause.TheVariants.{Unused}
use Rattle.bytecodes.proofs.DispatchLaws.{dispatched, from_zero, next_serves}
use Rattle.contexts.proofs.Steps.{halt_serves}
use Rattle.long_names.specs.Names.{FALSE, NIL, TRUE}
use Rattle.bytecodes.proofs.dispatch.plain_bytecode.Goals as goal

pub returns-in-0-to-15-clause-serves : goal.returns-in-0-to-15-clause-serves
unfolding bytecodes
returns-in-0-to-15-clause-serves g c = λ events. dispatched events c.args.byte 0 (next_from_to 0 15 (λ i. push_of (receiver_variable i))) (omega arith) refl refl (omega arith) (omega arith) (next_serves _ (from_zero (λ i. push_of (receiver_variable i)) c.args.byte (rw c.from.ensures at c.push_variable.ensures.serves)))

pub returns-in-16-to-31-clause-serves : goal.returns-in-16-to-31-clause-serves
unfolding bytecodes
returns-in-16-to-31-clause-serves g c = λ events. dispatched events c.args.byte 1 (next_from_to 16 31 (λ i. push_of (temporary i))) (omega arith) refl refl (omega arith) (omega arith) (next_serves _ (rw c.from-in-16-to-31.ensures at c.push_variable-in-16-to-31.ensures.serves))

pub returns-in-32-to-63-clause-serves : goal.returns-in-32-to-63-clause-serves
unfolding bytecodes
returns-in-32-to-63-clause-serves g c = λ events. dispatched events c.args.byte 2 (next_from_to 32 63 (λ i. push_of (literal_constant i))) (omega arith) refl refl (omega arith) (omega arith) (next_serves _ (rw c.from-in-32-to-63.ensures at c.push_variable-in-32-to-63.ensures.serves))

pub returns-in-64-to-95-clause-serves : goal.returns-in-64-to-95-clause-serves
unfolding bytecodes
returns-in-64-to-95-clause-serves g c = λ events. dispatched events c.args.byte 3 (next_from_to 64 95 (λ i. push_of (literal_variable i))) (omega arith) refl refl (omega arith) (omega arith) (next_serves _ (rw c.from-in-64-to-95.ensures at c.push_variable-in-64-to-95.ensures.serves))

pub returns-in-96-to-103-clause-serves : goal.returns-in-96-to-103-clause-serves
unfolding bytecodes
returns-in-96-to-103-clause-serves g c = λ events. dispatched events c.args.byte 4 (next_from_to 96 103 (λ i. store_and_pop (store_receiver_variable i))) (omega arith) refl refl (omega arith) (omega arith) (next_serves _ (rw c.from-in-96-to-103.ensures at c.store_and_pop.ensures.serves))

pub returns-in-104-to-111-clause-serves : goal.returns-in-104-to-111-clause-serves
unfolding bytecodes
returns-in-104-to-111-clause-serves g c = λ events. dispatched events c.args.byte 5 (next_from_to 104 111 (λ i. store_and_pop (store_temporary i))) (omega arith) refl refl (omega arith) (omega arith) (next_serves _ (rw c.from-in-104-to-111.ensures at c.store_and_pop-in-104-to-111.ensures.serves))

pub returns-in-112-clause-serves : goal.returns-in-112-clause-serves
unfolding bytecodes
returns-in-112-clause-serves g c = λ events. dispatched events c.args.byte 6 (next_only 112 push_receiver) (omega arith) refl refl (omega arith) (omega arith) (next_serves _ c.push_receiver.ensures.serves)

pub returns-in-113-clause-serves : goal.returns-in-113-clause-serves
unfolding bytecodes
returns-in-113-clause-serves g c = λ events. dispatched events c.args.byte 7 (next_only 113 (push_known TRUE)) (omega arith) refl refl (omega arith) (omega arith) (next_serves _ c.push_known.ensures.serves)

pub returns-in-114-clause-serves : goal.returns-in-114-clause-serves
unfolding bytecodes
returns-in-114-clause-serves g c = λ events. dispatched events c.args.byte 8 (next_only 114 (push_known FALSE)) (omega arith) refl refl (omega arith) (omega arith) (next_serves _ c.push_known-in-114.ensures.serves)

pub returns-in-115-clause-serves : goal.returns-in-115-clause-serves
unfolding bytecodes
returns-in-115-clause-serves g c = λ events. dispatched events c.args.byte 9 (next_only 115 (push_known NIL)) (omega arith) refl refl (omega arith) (omega arith) (next_serves _ c.push_known-in-115.ensures.serves)

pub returns-in-116-to-119-clause-serves : goal.returns-in-116-to-119-clause-serves
unfolding bytecodes
returns-in-116-to-119-clause-serves g c = λ events. dispatched events c.args.byte 10 (next_from_to 116 119 push_number) (omega arith) refl refl (omega arith) (omega arith) (next_serves _ c.push_number.ensures.serves)

pub returns-in-126-to-127-clause-serves : goal.returns-in-126-to-127-clause-serves
unfolding bytecodes
returns-in-126-to-127-clause-serves g c = λ events. dispatched events c.args.byte 17 (next_from_to 126 127 (λ i. halt Unused)) (omega arith) refl refl (omega arith) (omega arith) (next_serves _ halt_serves)

pub returns-in-128-clause-serves : goal.returns-in-128-clause-serves
unfolding bytecodes
returns-in-128-clause-serves g c = λ events. dispatched events c.args.byte 18 (next_only 128 extended_push) (omega arith) refl refl (omega arith) (omega arith) (next_serves _ c.extended_push.ensures.serves)

pub returns-in-129-clause-serves : goal.returns-in-129-clause-serves
unfolding bytecodes
returns-in-129-clause-serves g c = λ events. dispatched events c.args.byte 19 (next_only 129 extended_store) (omega arith) refl refl (omega arith) (omega arith) (next_serves _ c.extended_store.ensures.serves)

pub returns-in-130-clause-serves : goal.returns-in-130-clause-serves
unfolding bytecodes
returns-in-130-clause-serves g c = λ events. dispatched events c.args.byte 20 (next_only 130 extended_store_and_pop) (omega arith) refl refl (omega arith) (omega arith) (next_serves _ c.extended_store_and_pop.ensures.serves)

pub returns-in-135-clause-serves : goal.returns-in-135-clause-serves
unfolding bytecodes
returns-in-135-clause-serves g c = λ events. dispatched events c.args.byte 25 (next_only 135 (pop 1)) (omega arith) refl refl (omega arith) (omega arith) (next_serves _ (c.pop.ensures.serves _ c.requires.fit.ready))

pub returns-in-136-clause-serves : goal.returns-in-136-clause-serves
unfolding bytecodes
returns-in-136-clause-serves g c = λ events. dispatched events c.args.byte 26 (next_only 136 duplicate_top) (omega arith) refl refl (omega arith) (omega arith) (next_serves _ c.duplicate_top.ensures.serves)

pub returns-in-137-clause-serves : goal.returns-in-137-clause-serves
unfolding bytecodes
returns-in-137-clause-serves g c = λ events. dispatched events c.args.byte 27 (next_only 137 push_active_context) (omega arith) refl refl (omega arith) (omega arith) (next_serves _ c.push_active_context.ensures.serves)

pub returns-in-138-to-143-clause-serves : goal.returns-in-138-to-143-clause-serves
unfolding bytecodes
returns-in-138-to-143-clause-serves g c = λ events. dispatched events c.args.byte 28 (next_from_to 138 143 (λ i. halt Unused)) (omega arith) refl refl (omega arith) (omega arith) (next_serves _ halt_serves)

pub returns-in-144-to-151-clause-serves : goal.returns-in-144-to-151-clause-serves
unfolding bytecodes
returns-in-144-to-151-clause-serves g c = λ events. dispatched events c.args.byte 29 (next_from_to 144 151 (λ i. jump (pos (i + 1)))) (omega arith) refl refl (omega arith) (omega arith) (next_serves _ (rw c.from-in-144-to-151.ensures at c.short_jump.ensures.serves))

pub returns-in-160-to-167-clause-serves : goal.returns-in-160-to-167-clause-serves
unfolding bytecodes
returns-in-160-to-167-clause-serves g c = λ events. dispatched events c.args.byte 31 (next_from_to 160 167 long_jump) (omega arith) refl refl (omega arith) (omega arith) (next_serves _ (rw c.from-in-160-to-167.ensures at c.long_jump.ensures.serves))
