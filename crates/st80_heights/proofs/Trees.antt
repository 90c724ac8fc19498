-- The code of trees is sound.
use Rattle.std.proofs.Common.{◌≡◌, ℕ, zero, suc, ◌+◌, ◌≤◌, ◌⊎◌, inl, inr, Bool, true, false, cond, nat_lt, List, [], ◌++◌, Option, Some, None, refl, sym, subst, arith}
use Rattle.std.proofs.lemmas.List.{append-nil}
use Rattle.st80_tree.specs.declared.tree.Constant.{Constant}
use Rattle.st80_tree.specs.declared.tree.Constant.TheVariants as constant
use Rattle.st80_tree.specs.declared.tree.Node.{Node}
use Rattle.st80_tree.specs.declared.tree.Node.TheVariants.{Constant as Fixed, Context, Literal, Variable as Read, Assign', Send', Cascade', Block', Choice', Loop'}
use Rattle.st80_tree.specs.declared.tree.Nodes.{Nodes}
use Rattle.st80_tree.specs.declared.tree.Nodes.TheVariants.{End, More'}
use Rattle.st80_tree.specs.declared.tree.Messages.{Messages}
use Rattle.st80_tree.specs.declared.tree.Messages.TheVariants.{Last', Then'}
use Rattle.st80_tree.specs.declared.tree.Statements.{Statements}
use Rattle.st80_tree.specs.declared.tree.Statements.TheVariants.{Done, Value', Return', Step'}
use Rattle.st80_tree.specs.declared.tree.Method.{Method}
use Rattle.st80_compile.specs.declared.step.Place.TheVariants.{OfFrame, OfHome}
use Rattle.st80_compile.specs.declared.step.Op.TheVariants.{Push, PushConstant, PushContext, Store, StorePop, Pop, Duplicate, ReturnConstant, ReturnTop, ReturnFromBlock}
use Rattle.st80_compile.specs.declared.step.Step.{Step}
use Rattle.st80_compile.specs.Frame.{higher, raised, index_of}
use Rattle.st80_compile.specs.Bytes.{far}
use Rattle.st80_compile.specs.Steps.{one, place_of, message, quick, return_steps, returns, stores, closing, opening, loop_steps, value_steps, effect_steps, argument_steps, message_steps, statement_steps}
use Rattle.st80_compile.specs.Compiled.{ended, steps_of}
use Rattle.st80_heights.specs.Heights.{IsMore, IsPart}
use Rattle.st80_heights.proofs.Carry.{part-append, part-nil}
use Rattle.st80_heights.proofs.Parts.{higher-more, higher-some, part-push, part-same, part-drop, part-return, part-message, Ends, choice-part, loop-part, opening-part}

-- ---- arguments

-- how many there are
abbrev counted : Nodes → ℕ
counted End = 0
counted (More' p e q rest) = counted rest + 1

raised-by : (h : ℕ) (rest : Nodes) (k : ℕ) → IsMore 1 h k → ((raised k rest ≡ k + counted rest) ⊎ (255 ≤ raised k rest)) → (255 ≤ k → 255 ≤ raised k rest) → (raised k rest ≡ h + (counted rest + 1)) ⊎ (255 ≤ raised k rest)
raised-by h rest k (inl e) (inl x) f = inl (omega arith)
raised-by h rest k (inl e) (inr x) f = inr x
raised-by h rest k (inr e) x f = inr (f e)

high-by : (h k : ℕ) → IsMore 1 h k → 255 ≤ h → 255 ≤ k
high-by h k (inl e) le = omega arith
high-by h k (inr e) le = e

raised-high : (h : ℕ) (args : Nodes) → 255 ≤ h → 255 ≤ raised h args
raised-high h End le = le
raised-high h (More' p e q rest) le = raised-high (higher h) rest (high-by h (higher h) (higher-more h) le)

raised-is : (h : ℕ) (args : Nodes) → (raised h args ≡ h + counted args) ⊎ (255 ≤ raised h args)
raised-is h End = inl (omega arith)
raised-is h (More' p e q rest) =
    raised-by h rest (higher h) (higher-more h) (raised-is (higher h) rest) (raised-high (higher h) rest)

-- heights don't grow past the number of arguments, nor past 255
least-by : (h : ℕ) (t : Bool) → cond t (h + 1) h ≤ h + 1
least-by h true = omega arith
least-by h false = omega arith

raised-most : (h : ℕ) (args : Nodes) → raised h args ≤ h + counted args
raised-most h End = omega arith
raised-most h (More' p e q rest) =
    let one-more : higher h ≤ h + 1 = least-by h (nat_lt h 255) in
    let ih : raised (higher h) rest ≤ higher h + counted rest = raised-most (higher h) rest in
    omega arith

more-by : (h n r z : ℕ) → (r ≡ h + n) ⊎ (255 ≤ r) → (z ≡ 0 + n) ⊎ (255 ≤ z) → z ≤ 0 + n → (r ≡ h + z) ⊎ (255 ≤ r)
more-by h n r z (inr x) y le = inr x
more-by h n r z (inl x) (inl y) le = inl (omega arith)
more-by h n r z (inl x) (inr y) le = inr (omega arith)

pub raised-more : (h : ℕ) (args : Nodes) → IsMore (raised 0 args) h (raised h args)
raised-more h args = more-by h (counted args) (raised h args) (raised 0 args) (raised-is h args) (raised-is 0 args) (raised-most 0 args)

-- ---- blocks

stores-part : (first n : ℕ) → IsPart 0 n (stores first n)
stores-part first zero = part-nil 0
stores-part first (suc n) =
    part-append 0 n (suc n) (one (suc n) (StorePop (OfHome (first + n)))) (stores first n)
    (part-drop n (suc n) 1 (StorePop (OfHome (first + n))) (λ at q x. x) (inl (omega arith))) (stores-part first n)

closed : (e : ℕ) (r : Bool) (body : List Step) → ((x : ℕ) → Ends r 1 x → IsPart x 0 body) → IsPart e 0 (body ++ closing r)
closed e true body x = subst (λ l. IsPart e 0 l) (sym (append-nil body)) (x e (inl refl))
closed e false body x =
    part-append e 1 0 body (one 1 ReturnFromBlock) (x 1 (inr refl)) (part-return e 1 ReturnFromBlock (λ at q. omega arith))

block-part : (frame : List ℕ) (h first count : ℕ) (r : Bool) (body : List Step) → ((x : ℕ) → Ends r 1 x → IsPart x 0 body) → IsPart (higher h) h (opening frame h count (far (stores first count ++ (body ++ closing r))) ++ (stores first count ++ (body ++ closing r)))
block-part frame h first count r body x =
    opening-part frame h count count (stores first count ++ (body ++ closing r))
    (part-append (higher h) 0 count (stores first count) (body ++ closing r) (stores-part first count) (closed (higher h) r body x))

-- ---- returns

return-part : (e h : ℕ) (c : Option Constant) (value : List Step) → IsPart (higher h) h value → IsPart e h (return_steps h c value)
return-part e h (Some c) value x = part-return e h (ReturnConstant c) (λ at q. tt)
return-part e h None value x =
    part-append e (higher h) h value (one (higher h) ReturnTop) x (part-return e (higher h) ReturnTop (λ at q. higher-some h))

-- ---- trees

-- the height behind statements
abbrev pub behind : Bool → ℕ → ℕ
behind true h = higher h
behind false h = h

never : (k x : ℕ) → Ends false k x → x ≡ k
never k x (inl e) = cc
never k x (inr e) = e

send-part : (frame : List ℕ) (to_super : Bool) (h s : ℕ) (args : Nodes) (r a : List Step) → IsPart (higher h) h r → IsPart (raised (higher h) args) (higher h) a → IsPart (higher h) h (r ++ (a ++ one (raised (higher h) args) (message frame to_super s (raised 0 args))))
send-part frame to_super h s args r a x y =
    part-append (higher h) (higher h) h r _ x
    (part-append (higher h) (raised (higher h) args) (higher h) a _ y
    (part-message frame to_super s (raised 0 args) (raised (higher h) args) (higher h) (raised-more (higher h) args)))

popped : (h : ℕ) (l : List Step) → IsPart (higher h) h l → IsPart h h (l ++ one (higher h) Pop)
popped h l x = part-append h (higher h) h l (one (higher h) Pop) x (part-drop h (higher h) 1 Pop (λ at q x. x) (higher-more h))

mutual
  pub value-part : (frame : List ℕ) (h : ℕ) (node : Node) → IsPart (higher h) h (value_steps frame h node)
  value-part frame h (Fixed c) = part-push h (PushConstant c) (λ at q x. x)
  value-part frame h Context = part-push h PushContext (λ at q x. x)
  value-part frame h (Literal l) = part-push h (Push (OfFrame (index_of frame l))) (λ at q x. x)
  value-part frame h (Read v) = part-push h (Push (place_of frame v)) (λ at q x. x)
  value-part frame h (Assign' v p e) =
      part-append (higher h) (higher h) h (value_steps frame h e) (one (higher h) (Store (place_of frame v))) (value-part frame h e)
      (part-same (higher h) (Store (place_of frame v)) (λ at q x. x))
  value-part frame h (Send' to_super p r s q args) =
      send-part frame to_super h s args (value_steps frame h r) (argument_steps frame (higher h) args) (value-part frame h r) (argument-part frame (higher h) args)
  value-part frame h (Cascade' to_super p r q ms) =
      part-append (higher h) (higher h) h (value_steps frame h r) (message_steps frame to_super (higher h) ms) (value-part frame h r) (message-part frame to_super (higher h) ms)
  value-part frame h (Block' first count p body) =
      block-part frame h first count (returns body) (statement_steps frame 0 true body) (λ x e. statement-part frame 0 true body x e)
  value-part frame h (Choice' on p t q a r b) =
      part-append (higher h) (higher h) h (value_steps frame h t) _ (value-part frame h t)
      (choice-part on (higher h) h (returns a) (statement_steps frame h true a) (statement_steps frame h true b)
      (λ x e. statement-part frame h true a x e) (statement-part frame h true b (higher h) (inr refl)))
  value-part frame h (Loop' on p t q body) =
      part-append (higher h) h h (loop_steps on h (statement_steps frame h true t) (statement_steps frame h false body)) (one h (PushConstant constant.Nil))
      (loop-part on h (statement_steps frame h true t) (statement_steps frame h false body)
      (statement-part frame h true t (higher h) (inr refl)) (statement-part frame h false body h (inr refl)))
      (part-push h (PushConstant constant.Nil) (λ at q x. x))

  pub effect-part : (frame : List ℕ) (h : ℕ) (node : Node) → IsPart h h (effect_steps frame h node)
  effect-part frame h (Fixed c) = part-nil h
  effect-part frame h Context = part-nil h
  effect-part frame h (Literal l) = part-nil h
  effect-part frame h (Read v) = part-nil h
  effect-part frame h (Assign' v p e) =
      part-append h (higher h) h (value_steps frame h e) (one (higher h) (StorePop (place_of frame v))) (value-part frame h e)
      (part-drop h (higher h) 1 (StorePop (place_of frame v)) (λ at q x. x) (higher-more h))
  effect-part frame h (Send' to_super p r s q args) =
      popped h _ (send-part frame to_super h s args (value_steps frame h r) (argument_steps frame (higher h) args) (value-part frame h r) (argument-part frame (higher h) args))
  effect-part frame h (Cascade' to_super p r q ms) =
      popped h _ (part-append (higher h) (higher h) h (value_steps frame h r) (message_steps frame to_super (higher h) ms) (value-part frame h r) (message-part frame to_super (higher h) ms))
  effect-part frame h (Block' first count p body) = part-nil h
  effect-part frame h (Choice' on p t q a r b) =
      part-append h (higher h) h (value_steps frame h t) _ (value-part frame h t)
      (choice-part on h h (returns a) (statement_steps frame h false a) (statement_steps frame h false b)
      (λ x e. statement-part frame h false a x e) (statement-part frame h false b h (inr refl)))
  effect-part frame h (Loop' on p t q body) =
      loop-part on h (statement_steps frame h true t) (statement_steps frame h false body)
      (statement-part frame h true t (higher h) (inr refl)) (statement-part frame h false body h (inr refl))

  pub argument-part : (frame : List ℕ) (h : ℕ) (args : Nodes) → IsPart (raised h args) h (argument_steps frame h args)
  argument-part frame h End = part-nil h
  argument-part frame h (More' p e q rest) =
      part-append (raised (higher h) rest) (higher h) h (value_steps frame h e) (argument_steps frame (higher h) rest) (value-part frame h e) (argument-part frame (higher h) rest)

  pub message-part : (frame : List ℕ) (to_super : Bool) (h : ℕ) (ms : Messages) → IsPart h h (message_steps frame to_super h ms)
  message-part frame to_super h (Last' s p args) =
      part-append h (raised h args) h (argument_steps frame h args) _ (argument-part frame h args)
      (part-message frame to_super s (raised 0 args) (raised h args) h (raised-more h args))
  message-part frame to_super h (Then' s p args q rest) =
      part-append h (higher h) h (one h Duplicate) _ (part-push h Duplicate (λ at q x. x))
      (part-append h (raised (higher h) args) (higher h) (argument_steps frame (higher h) args) _ (argument-part frame (higher h) args)
      (part-append h (higher h) (raised (higher h) args) (one (raised (higher h) args) (message frame to_super s (raised 0 args))) _
      (part-message frame to_super s (raised 0 args) (raised (higher h) args) (higher h) (raised-more (higher h) args))
      (part-append h h (higher h) (one (higher h) Pop) (message_steps frame to_super h rest)
      (part-drop h (higher h) 1 Pop (λ at q x. x) (higher-more h)) (message-part frame to_super h rest))))

  pub statement-part : (frame : List ℕ) (h : ℕ) (wanted : Bool) (body : Statements) (x : ℕ) → Ends (returns body) (behind wanted h) x → IsPart x h (statement_steps frame h wanted body)
  statement-part frame h true Done x e =
      subst (λ k. IsPart k h (one h (PushConstant constant.Nil))) (sym (never (higher h) x e)) (part-push h (PushConstant constant.Nil) (λ at q x. x))
  statement-part frame h false Done x e = subst (λ k. IsPart k h []) (sym (never h x e)) (part-nil h)
  statement-part frame h true (Value' p node) x e =
      subst (λ k. IsPart k h (value_steps frame h node)) (sym (never (higher h) x e)) (value-part frame h node)
  statement-part frame h false (Value' p node) x e =
      subst (λ k. IsPart k h (effect_steps frame h node)) (sym (never h x e)) (effect-part frame h node)
  statement-part frame h wanted (Return' p node) x e = return-part x h (quick node) (value_steps frame h node) (value-part frame h node)
  statement-part frame h wanted (Step' p node q rest) x e =
      part-append x h h (effect_steps frame h node) (statement_steps frame h wanted rest) (effect-part frame h node) (statement-part frame h wanted rest x e)

-- ---- methods

method-by : (h x : ℕ) (r : Bool) (body : List Step) → ((y : ℕ) → Ends r h y → IsPart y h body) → IsPart x h (ended r h body)
method-by h x true body f = f x (inl refl)
method-by h x false body f =
    part-append x h h body (one h (ReturnConstant constant.Receiver)) (f h (inr refl)) (part-return x h (ReturnConstant constant.Receiver) (λ at q. tt))

pub method-part : (frame : List ℕ) (m : Method) (x : ℕ) → IsPart x m.temporaries (steps_of frame m)
unfolding steps_of
method-part frame m x =
    method-by m.temporaries x (returns m.body.value) (statement_steps frame m.temporaries false m.body.value)
    (λ y e. statement-part frame m.temporaries false m.body.value y e)
