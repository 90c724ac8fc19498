-- The code of a tree names only literals that its frame has.
use Rattle.std.proofs.Common.{◌≡◌, ℕ, zero, suc, ◌+◌, ◌<◌, ◌≤◌, Bool, true, false, cond, nat_lt, ◌==◌, List, [], ◌∷◌, ◌++◌, length, Option, Some, None, refl, arith, eq-eqb}
use Rattle.std.proofs.lemmas.Bool.{ltb-true}
use Rattle.st80_tree.specs.declared.tree.Variable.{Variable}
use Rattle.st80_tree.specs.declared.tree.Variable.TheVariants.{Temporary, Instance, Shared}
use Rattle.st80_tree.specs.declared.tree.Constant.{Constant}
use Rattle.st80_tree.specs.declared.tree.Constant.TheVariants as constant
use Rattle.st80_tree.specs.declared.tree.Node.{Node}
use Rattle.st80_tree.specs.declared.tree.Node.TheVariants.{Constant as Fixed, Context, Literal, Variable as Read, Assign', Send', Cascade', Block', Choice', Loop'}
use Rattle.st80_tree.specs.declared.tree.Nodes.{Nodes}
use Rattle.st80_tree.specs.declared.tree.Nodes.TheVariants.{End, More'}
use Rattle.st80_tree.specs.declared.tree.Messages.{Messages}
use Rattle.st80_tree.specs.declared.tree.Messages.TheVariants.{Last', Then'}
use Rattle.st80_tree.specs.declared.tree.Statements.{Statements}
use Rattle.st80_tree.specs.declared.tree.Statements.TheVariants.{Done, Value', Return', Step'}
use Rattle.st80_tree.specs.declared.tree.Method.{Method}
use Rattle.st80_compile.specs.declared.step.Place.TheVariants.{OfFrame}
use Rattle.st80_compile.specs.declared.step.Op.{Op}
use Rattle.st80_compile.specs.declared.step.Op.TheVariants.{Push, PushConstant, Store, StorePop, Message, Special, Jump, ReturnConstant, ReturnTop}
use Rattle.st80_compile.specs.declared.step.Step.{Step}
use Rattle.st80_compile.specs.Frame.{higher, raised, is_special, index_of, with_literal, with_variable, with_selector, with_count, node_literals, argument_literals, message_literals, statement_literals}
use Rattle.st80_compile.specs.Bytes.{far}
use Rattle.st80_compile.specs.Steps.{one, place_of, message, quick, return_steps, returns, count_op, stores, closing, opening, passes, passing, choice_steps, loop_steps, value_steps, effect_steps, argument_steps, message_steps, statement_steps}
use Rattle.st80_compile.specs.Compiled.{frame_of, ended, steps_of}
use Rattle.st80_heights.specs.Heights.{HasLiteral, AllHave}

have-append : (n : ℕ) (a b : List Step) → AllHave n a → AllHave n b → AllHave n (a ++ b)
have-append n [] b x y = y
have-append n (s ∷ a) b x y = (x.0, have-append n a b x.1 y)

-- ---- frames

abbrev Has : List ℕ → ℕ → Type 0
Has f l = index_of f l < length f

-- what one frame has, another has too
record Covers (f g : List ℕ) : Type 0 where
  pub has : (l : ℕ) → Has f l → Has g l

covers-same : (f : List ℕ) → Covers f f
covers-same f = record { has = λ l h. h }

covers-then : (f g k : List ℕ) → Covers f g → Covers g k → Covers f k
covers-then f g k a b = record { has = λ l h. b.has l (a.has l h) }

append-by : (i j m n a b : ℕ) (t : Bool) → (i < m → j < n) → a ≡ m + 1 → b ≡ n + 1 → cond t 0 (suc i) < a → cond t 0 (suc j) < b
append-by i j m n a b true f e k h = omega arith
append-by i j m n a b false f e k h = let below : j < n = f (omega arith) in omega arith

has-append : (f r : List ℕ) (l : ℕ) → Has f l → Has (f ++ r) l
has-append [] r l h = absurd (omega arith)
has-append (x ∷ f) r l h =
    append-by (index_of f l) (index_of (f ++ r) l) (length f) (length (f ++ r)) (length (x ∷ f)) (length (x ∷ (f ++ r))) (x == l) (has-append f r l) (omega arith) (omega arith) h

last-by : (j n b : ℕ) (t : Bool) → j < n → b ≡ n + 1 → cond t 0 (suc j) < b
last-by j n b true h e = omega arith
last-by j n b false h e = omega arith

has-last : (f : List ℕ) (l : ℕ) → Has (f ++ l ∷ []) l
has-last [] l = rw (eq-eqb l l refl) (omega arith)
has-last (x ∷ f) l =
    last-by (index_of (f ++ l ∷ []) l) (length (f ++ l ∷ [])) (length (x ∷ (f ++ l ∷ []))) (x == l) (has-last f l) (omega arith)

literal-by : (f : List ℕ) (l : ℕ) (t : Bool) → nat_lt (index_of f l) (length f) ≡ t → Covers f (cond t f (f ++ l ∷ [])) × Has (cond t f (f ++ l ∷ [])) l
literal-by f l true e = (covers-same f, ltb-true (index_of f l) (length f) e)
literal-by f l false e = (record { has = λ k h. has-append f (l ∷ []) k h }, has-last f l)

literal-more : (f : List ℕ) (l : ℕ) → Covers f (with_literal f l) × Has (with_literal f l) l
literal-more f l = literal-by f l (nat_lt (index_of f l) (length f)) refl

variable-more : (f : List ℕ) (v : Variable) → Covers f (with_variable f v)
variable-more f (Temporary n) = covers-same f
variable-more f (Instance n) = covers-same f
variable-more f (Shared l) = (literal-more f l).0

either-more : (f : List ℕ) (l : ℕ) (t : Bool) → Covers f (cond t f (with_literal f l))
either-more f l true = covers-same f
either-more f l false = (literal-more f l).0

selector-more : (f : List ℕ) (to_super : Bool) (s n : ℕ) → Covers f (with_selector f to_super s n)
selector-more f to_super s n = either-more f s (is_special to_super s n)

count-more : (f : List ℕ) (n : ℕ) → Covers f (with_count f n)
count-more f n = either-more f (42 + n) (nat_lt n 3)

-- ---- instructions

push-has : (f g : List ℕ) (v : Variable) → Covers (with_variable f v) g → HasLiteral (length g) (Push (place_of g v))
push-has f g (Temporary n) c = tt
push-has f g (Instance n) c = tt
push-has f g (Shared l) c = c.has l (literal-more f l).1

store-has : (f g : List ℕ) (v : Variable) → Covers (with_variable f v) g → HasLiteral (length g) (Store (place_of g v))
store-has f g (Temporary n) c = tt
store-has f g (Instance n) c = tt
store-has f g (Shared l) c = c.has l (literal-more f l).1

pop-has : (f g : List ℕ) (v : Variable) → Covers (with_variable f v) g → HasLiteral (length g) (StorePop (place_of g v))
pop-has f g (Temporary n) c = tt
pop-has f g (Instance n) c = tt
pop-has f g (Shared l) c = c.has l (literal-more f l).1

message-by : (f g : List ℕ) (to_super : Bool) (s n : ℕ) (t : Bool) → Covers (cond t f (with_literal f s)) g → HasLiteral (length g) (cond t (Special s) (Message to_super (index_of g s) n))
message-by f g to_super s n true c = tt
message-by f g to_super s n false c = c.has s (literal-more f s).1

message-has : (f g : List ℕ) (to_super : Bool) (s n : ℕ) → Covers (with_selector f to_super s n) g → HasLiteral (length g) (message g to_super s n)
message-has f g to_super s n c = message-by f g to_super s n (is_special to_super s n) c

conds-have : (n : ℕ) (a b c : Bool) (o : Op) → HasLiteral n o → HasLiteral n (cond a (PushConstant constant.Zero) (cond b (PushConstant constant.One) (cond c (PushConstant constant.Two) o)))
conds-have n true b c o x = tt
conds-have n false true c o x = tt
conds-have n false false true o x = tt
conds-have n false false false o x = x

count-by : (f g : List ℕ) (n : ℕ) (t : Bool) → nat_lt n 3 ≡ t → 3 ≤ n → Covers (cond t f (with_literal f (42 + n))) g → Has g (42 + n)
count-by f g n true e many c = let few : n < 3 = ltb-true n 3 e in absurd (omega arith)
count-by f g n false e many c = c.has (42 + n) (literal-more f (42 + n)).1

count-has : (f g : List ℕ) (n : ℕ) → Covers (with_count f n) g → HasLiteral (length g) (count_op g n)
count-has f g zero c = tt
count-has f g (suc zero) c = tt
count-has f g (suc (suc zero)) c = tt
count-has f g (suc (suc (suc n))) c =
    let m = suc (suc (suc n)) in
    conds-have (length g) (m == 0) (m == 1) (m == 2) (Push (OfFrame (index_of g (42 + m)))) (count-by f g m (nat_lt m 3) refl (omega arith) c)

-- ---- patterns

stores-have : (n first count : ℕ) → AllHave n (stores first count)
stores-have n first zero = tt
stores-have n first (suc k) = (tt, stores-have n first k)

closing-have : (n : ℕ) (r : Bool) → AllHave n (closing r)
closing-have n true = tt
closing-have n false = (tt, tt)

passing-have : (n h d : ℕ) (t : Bool) → AllHave n (cond t (one h (Jump d)) [])
passing-have n h d true = (tt, tt)
passing-have n h d false = tt

choice-have : (n : ℕ) (on : Bool) (h k : ℕ) (r : Bool) (a b : List Step) → AllHave n a → AllHave n b → AllHave n (choice_steps on h k r a b)
choice-have n on h k r a b x y =
    (tt, have-append n (a ++ passing k r (far b)) b (have-append n a (passing k r (far b)) x (passing-have n k (far b) (passes r (far b)))) y)

loop-have : (n : ℕ) (on : Bool) (h : ℕ) (t b : List Step) → AllHave n t → AllHave n b → AllHave n (loop_steps on h t b)
loop-have n on h t b x y = have-append n t _ x (tt, have-append n b _ y (tt, tt))

block-have : (f g : List ℕ) (h first count d : ℕ) (r : Bool) (body : List Step) → Covers (with_count f count) g → AllHave (length g) body → AllHave (length g) (opening g h count d ++ (stores first count ++ (body ++ closing r)))
block-have f g h first count d r body c x =
    (tt, (count-has f g count c, (tt, (tt, have-append (length g) (stores first count) _ (stores-have (length g) first count) (have-append (length g) body (closing r) x (closing-have (length g) r))))))

return-have : (n h : ℕ) (c : Option Constant) (value : List Step) → AllHave n value → AllHave n (return_steps h c value)
return-have n h (Some c) value x = (tt, tt)
return-have n h None value x = have-append n value (one (higher h) ReturnTop) x (tt, tt)

-- ---- trees: frames grow

mutual
  node-more : (f : List ℕ) (node : Node) → Covers f (node_literals f node)
  node-more f (Fixed c) = covers-same f
  node-more f Context = covers-same f
  node-more f (Literal l) = (literal-more f l).0
  node-more f (Read v) = variable-more f v
  node-more f (Assign' v p e) = covers-then f (node_literals f e) (with_variable (node_literals f e) v) (node-more f e) (variable-more (node_literals f e) v)
  node-more f (Send' to_super p r s q args) =
      covers-then f (argument_literals (node_literals f r) args) _
      (covers-then f (node_literals f r) (argument_literals (node_literals f r) args) (node-more f r) (argument-more (node_literals f r) args))
      (selector-more (argument_literals (node_literals f r) args) to_super s (raised 0 args))
  node-more f (Cascade' to_super p r q ms) =
      covers-then f (node_literals f r) (message_literals (node_literals f r) to_super ms) (node-more f r) (message-more (node_literals f r) to_super ms)
  node-more f (Block' first count p body) =
      covers-then f (with_count f count) (statement_literals (with_count f count) body) (count-more f count) (statement-more (with_count f count) body)
  node-more f (Choice' on p t q a r b) =
      covers-then f (node_literals f t) (statement_literals (statement_literals (node_literals f t) a) b) (node-more f t)
      (covers-then (node_literals f t) (statement_literals (node_literals f t) a) (statement_literals (statement_literals (node_literals f t) a) b)
      (statement-more (node_literals f t) a) (statement-more (statement_literals (node_literals f t) a) b))
  node-more f (Loop' on p t q body) =
      covers-then f (statement_literals f t) (statement_literals (statement_literals f t) body) (statement-more f t) (statement-more (statement_literals f t) body)

  argument-more : (f : List ℕ) (args : Nodes) → Covers f (argument_literals f args)
  argument-more f End = covers-same f
  argument-more f (More' p e q rest) =
      covers-then f (node_literals f e) (argument_literals (node_literals f e) rest) (node-more f e) (argument-more (node_literals f e) rest)

  message-more : (f : List ℕ) (to_super : Bool) (ms : Messages) → Covers f (message_literals f to_super ms)
  message-more f to_super (Last' s p args) =
      covers-then f (argument_literals f args) (with_selector (argument_literals f args) to_super s (raised 0 args)) (argument-more f args)
      (selector-more (argument_literals f args) to_super s (raised 0 args))
  message-more f to_super (Then' s p args q rest) =
      let a = argument_literals f args in
      let b = with_selector a to_super s (raised 0 args) in
      covers-then f b (message_literals b to_super rest)
      (covers-then f a b (argument-more f args) (selector-more a to_super s (raised 0 args))) (message-more b to_super rest)

  statement-more : (f : List ℕ) (body : Statements) → Covers f (statement_literals f body)
  statement-more f Done = covers-same f
  statement-more f (Value' p e) = node-more f e
  statement-more f (Return' p e) = node-more f e
  statement-more f (Step' p e q rest) =
      covers-then f (node_literals f e) (statement_literals (node_literals f e) rest) (node-more f e) (statement-more (node_literals f e) rest)

-- ---- trees: a frame that has all of a tree's literals has those that its code names

mutual
  value-have : (f g : List ℕ) (h : ℕ) (node : Node) → Covers (node_literals f node) g → AllHave (length g) (value_steps g h node)
  value-have f g h (Fixed c) k = (tt, tt)
  value-have f g h Context k = (tt, tt)
  value-have f g h (Literal l) k = (k.has l (literal-more f l).1, tt)
  value-have f g h (Read v) k = (push-has f g v k, tt)
  value-have f g h (Assign' v p e) k =
      have-append (length g) (value_steps g h e) (one (higher h) (Store (place_of g v)))
      (value-have f g h e (covers-then (node_literals f e) (with_variable (node_literals f e) v) g (variable-more (node_literals f e) v) k))
      (store-has (node_literals f e) g v k, tt)
  value-have f g h (Send' to_super p r s q args) k =
      let n = node_literals f r in
      let a = argument_literals n args in
      let b = with_selector a to_super s (raised 0 args) in
      let ka : Covers a g = covers-then a b g (selector-more a to_super s (raised 0 args)) k in
      let kn : Covers n g = covers-then n a g (argument-more n args) ka in
      have-append (length g) (value_steps g h r) _ (value-have f g h r kn)
      (have-append (length g) (argument_steps g (higher h) args) _ (argument-have n g (higher h) args ka) (message-has a g to_super s (raised 0 args) k, tt))
  value-have f g h (Cascade' to_super p r q ms) k =
      let n = node_literals f r in
      have-append (length g) (value_steps g h r) _ (value-have f g h r (covers-then n (message_literals n to_super ms) g (message-more n to_super ms) k))
      (message-have n g to_super (higher h) ms k)
  value-have f g h (Block' first count p body) k =
      let n = with_count f count in
      block-have f g h first count (far (stores first count ++ (statement_steps g 0 true body ++ closing (returns body)))) (returns body) (statement_steps g 0 true body)
      (covers-then n (statement_literals n body) g (statement-more n body) k) (statement-have n g 0 true body k)
  value-have f g h (Choice' on p t q a r b) k =
      let n = node_literals f t in
      let m = statement_literals n a in
      let km : Covers m g = covers-then m (statement_literals m b) g (statement-more m b) k in
      have-append (length g) (value_steps g h t) _ (value-have f g h t (covers-then n m g (statement-more n a) km))
      (choice-have (length g) on (higher h) (higher h) (returns a) (statement_steps g h true a) (statement_steps g h true b)
      (statement-have n g h true a km) (statement-have m g h true b k))
  value-have f g h (Loop' on p t q body) k =
      let n = statement_literals f t in
      have-append (length g) (loop_steps on h (statement_steps g h true t) (statement_steps g h false body)) _
      (loop-have (length g) on h (statement_steps g h true t) (statement_steps g h false body)
      (statement-have f g h true t (covers-then n (statement_literals n body) g (statement-more n body) k)) (statement-have n g h false body k))
      (tt, tt)

  effect-have : (f g : List ℕ) (h : ℕ) (node : Node) → Covers (node_literals f node) g → AllHave (length g) (effect_steps g h node)
  effect-have f g h (Fixed c) k = tt
  effect-have f g h Context k = tt
  effect-have f g h (Literal l) k = tt
  effect-have f g h (Read v) k = tt
  effect-have f g h (Assign' v p e) k =
      have-append (length g) (value_steps g h e) (one (higher h) (StorePop (place_of g v)))
      (value-have f g h e (covers-then (node_literals f e) (with_variable (node_literals f e) v) g (variable-more (node_literals f e) v) k))
      (pop-has (node_literals f e) g v k, tt)
  effect-have f g h (Send' to_super p r s q args) k =
      let n = node_literals f r in
      let a = argument_literals n args in
      let b = with_selector a to_super s (raised 0 args) in
      let ka : Covers a g = covers-then a b g (selector-more a to_super s (raised 0 args)) k in
      let kn : Covers n g = covers-then n a g (argument-more n args) ka in
      have-append (length g) (value_steps g h r ++ (argument_steps g (higher h) args ++ one (raised (higher h) args) (message g to_super s (raised 0 args)))) _
      (have-append (length g) (value_steps g h r) _ (value-have f g h r kn)
      (have-append (length g) (argument_steps g (higher h) args) _ (argument-have n g (higher h) args ka) (message-has a g to_super s (raised 0 args) k, tt)))
      (tt, tt)
  effect-have f g h (Cascade' to_super p r q ms) k =
      let n = node_literals f r in
      have-append (length g) (value_steps g h r ++ message_steps g to_super (higher h) ms) _
      (have-append (length g) (value_steps g h r) _ (value-have f g h r (covers-then n (message_literals n to_super ms) g (message-more n to_super ms) k))
      (message-have n g to_super (higher h) ms k))
      (tt, tt)
  effect-have f g h (Block' first count p body) k = tt
  effect-have f g h (Choice' on p t q a r b) k =
      let n = node_literals f t in
      let m = statement_literals n a in
      let km : Covers m g = covers-then m (statement_literals m b) g (statement-more m b) k in
      have-append (length g) (value_steps g h t) _ (value-have f g h t (covers-then n m g (statement-more n a) km))
      (choice-have (length g) on (higher h) h (returns a) (statement_steps g h false a) (statement_steps g h false b)
      (statement-have n g h false a km) (statement-have m g h false b k))
  effect-have f g h (Loop' on p t q body) k =
      let n = statement_literals f t in
      loop-have (length g) on h (statement_steps g h true t) (statement_steps g h false body)
      (statement-have f g h true t (covers-then n (statement_literals n body) g (statement-more n body) k)) (statement-have n g h false body k)

  argument-have : (f g : List ℕ) (h : ℕ) (args : Nodes) → Covers (argument_literals f args) g → AllHave (length g) (argument_steps g h args)
  argument-have f g h End k = tt
  argument-have f g h (More' p e q rest) k =
      let n = node_literals f e in
      have-append (length g) (value_steps g h e) _ (value-have f g h e (covers-then n (argument_literals n rest) g (argument-more n rest) k))
      (argument-have n g (higher h) rest k)

  message-have : (f g : List ℕ) (to_super : Bool) (h : ℕ) (ms : Messages) → Covers (message_literals f to_super ms) g → AllHave (length g) (message_steps g to_super h ms)
  message-have f g to_super h (Last' s p args) k =
      let a = argument_literals f args in
      have-append (length g) (argument_steps g h args) _
      (argument-have f g h args (covers-then a (with_selector a to_super s (raised 0 args)) g (selector-more a to_super s (raised 0 args)) k))
      (message-has a g to_super s (raised 0 args) k, tt)
  message-have f g to_super h (Then' s p args q rest) k =
      let a = argument_literals f args in
      let b = with_selector a to_super s (raised 0 args) in
      let kb : Covers b g = covers-then b (message_literals b to_super rest) g (message-more b to_super rest) k in
      let ka : Covers a g = covers-then a b g (selector-more a to_super s (raised 0 args)) kb in (
        tt,
        have-append (length g) (argument_steps g (higher h) args) _ (argument-have f g (higher h) args ka)
            (message-has a g to_super s (raised 0 args) kb, (tt, message-have b g to_super h rest k)),
      )

  statement-have : (f g : List ℕ) (h : ℕ) (wanted : Bool) (body : Statements) → Covers (statement_literals f body) g → AllHave (length g) (statement_steps g h wanted body)
  statement-have f g h true Done k = (tt, tt)
  statement-have f g h false Done k = tt
  statement-have f g h true (Value' p e) k = value-have f g h e k
  statement-have f g h false (Value' p e) k = effect-have f g h e k
  statement-have f g h wanted (Return' p e) k = return-have (length g) h (quick e) (value_steps g h e) (value-have f g h e k)
  statement-have f g h wanted (Step' p e q rest) k =
      let n = node_literals f e in
      have-append (length g) (effect_steps g h e) _ (effect-have f g h e (covers-then n (statement_literals n rest) g (statement-more n rest) k))
      (statement-have n g h wanted rest k)

-- ---- methods

method-by : (n h : ℕ) (r : Bool) (body : List Step) → AllHave n body → AllHave n (ended r h body)
method-by n h true body x = x
method-by n h false body x = have-append n body (one h (ReturnConstant constant.Receiver)) x (tt, tt)

pub method-have : (m : Method) → AllHave (length (frame_of m)) (steps_of (frame_of m) m)
unfolding frame_of steps_of
method-have m =
    let g = statement_literals [] m.body.value in
    method-by (length g) m.temporaries (returns m.body.value) (statement_steps g m.temporaries false m.body.value)
    (statement-have [] g m.temporaries false m.body.value (covers-same g))
