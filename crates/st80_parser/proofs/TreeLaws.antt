-- What each tree of the grammar is written as is taken, all of it: first what trees begin with, and then rule by rule.
use Rattle.std.proofs.Common.{◌≡◌, ◌≢◌, ◌<◌, ◌≤◌, ◌⊎◌, ℕ, ◌-◌, ◌==◌, ◌&&◌, Bool, true, false, List, [], ◌∷◌, ◌++◌, length, Some, None, inl, inr, refl, sym, ap, subst, ◌∙◌, append_assoc, append-nil, ne_eqb, arith, rules, true≢false}
use denote.Enum.Bare.{false_same, same_true, true_same}
use Rattle.st80_syntax.specs.declared.token.Token.{Token}
use Rattle.st80_syntax.specs.declared.token.Kind.{Kind}
use Rattle.st80_syntax.specs.declared.token.Kind.TheVariants as kind
use Rattle.st80_syntax.specs.contracts.token.Kind.{the_type}
use Rattle.st80_parser.specs.declared.arrays.TheConstants.{MOST_NESTED}
use Rattle.st80_parser.specs.declared.kinds.Opening.{Opening}
use Rattle.st80_parser.specs.declared.kinds.Opening.TheVariants as opening
use Rattle.st80_parser.specs.declared.kinds.Joint.{Joint}
use Rattle.st80_parser.specs.declared.kinds.Joint.TheVariants as joint
use Rattle.st80_parser.specs.declared.kinds.Item.TheVariants as item
use Rattle.st80_parser.specs.declared.tree.Expr.{Expr}
use Rattle.st80_parser.specs.declared.tree.Expr.TheVariants.{Name, Literal, Negative, Array, Group', Block', Assign', Unary', Binary', Keyword', Cascade'}
use Rattle.st80_parser.specs.declared.tree.Parts.{Parts}
use Rattle.st80_parser.specs.declared.tree.Parts.TheVariants as part
use Rattle.st80_parser.specs.declared.tree.Others.{Others}
use Rattle.st80_parser.specs.declared.tree.Others.TheVariants as other
use Rattle.st80_parser.specs.declared.tree.Steps.{Steps}
use Rattle.st80_parser.specs.declared.tree.Steps.TheVariants as step
use Rattle.st80_parser.specs.declared.tree.Last.{Last}
use Rattle.st80_parser.specs.declared.tree.Last.TheVariants as last
use Rattle.st80_parser.specs.declared.tree.Elements.{Elements}
use Rattle.st80_parser.specs.declared.tree.Elements.TheVariants as element
use Rattle.st80_parser.specs.declared.tree.Pairs.{Pairs}
use Rattle.st80_parser.specs.declared.tree.Pairs.TheVariants as pair
use Rattle.st80_parser.specs.declared.tree.Header.{Header}
use Rattle.st80_parser.specs.declared.tree.Header.TheVariants as header
use Rattle.st80_parser.specs.declared.tree.Names.{Names}
use Rattle.st80_parser.specs.declared.tree.Names.TheVariants as name
use Rattle.st80_parser.specs.declared.tree.Temporaries.{Temporaries}
use Rattle.st80_parser.specs.declared.tree.Temporaries.TheVariants as temporaries
use Rattle.st80_parser.specs.declared.tree.Primitive.{Primitive}
use Rattle.st80_parser.specs.declared.tree.Primitive.TheVariants as primitive
use Rattle.st80_parser.specs.declared.tree.Pattern.{Pattern}
use Rattle.st80_parser.specs.declared.tree.Pattern.TheVariants as pattern
use Rattle.st80_parser.specs.declared.tree.Method.{Method}
use Rattle.st80_parser.specs.Kinds.{item_of, joint_of, kind_at, opening_of, same_kind}
use Rattle.st80_parser.specs.Grammar.{AreElements, AreNames, AreOthers, ArePairs, AreParts, AreSteps, AreTemporaries, IsExpr, IsHeader, IsLast, IsMessage, IsMethod, IsPattern, IsPrimitive, SomeOthers, SomePairs, SomeParts}
use Rattle.st80_parser.specs.Stands as stands
use Rattle.st80_parser.specs.Stands.{After, Argument, Behind, Binary, Body, Dot, EndsCascade, First, Keywords, Marks, Message, Named, Nested, One, Operand, Place, Plain, Selector, Sent, State, Symbol, Taken, Takes, Unary, Whole, after, are_done, is_message, is_sent, run, start, state_of, takes_names}
use Rattle.st80_parser.specs.Written.{elements, expr, header_of, last_of, method, names, others, pairs, parts, pattern_of, primitive_of, steps, temporaries_of}
use Rattle.st80_parser.proofs.StandLaws.{after_is, alike, argument_ends, behind_skips, behind_takes, body_ends, body_first, body_returns, deeper_some, dot_skips, dot_takes, elements_is, first_some, header_skips, header_takes, keyword_takes, keywords_is, keywords_skip, marks_skips, marks_takes, message_is, name_takes, names_skips, names_takes, nested_some, one_takes, operand_ends, operator_takes, others_is, others_skip, primitive_skips, primitive_takes, selector_is, semicolon_takes, skips, takes, temporaries_skips, to_keywords, to_others, to_parts, temporaries_takes, took, whole_ends}

-- ---- kinds

pub is_same : (k j : Kind) → k ≡ j → same_kind k j ≡ true
is_same k j e = true_same the_type k j e

pub not_same : (k j : Kind) → (k ≡ j → ⊥) → same_kind k j ≡ false
not_same k j e = false_same the_type (search rules) k j e

pub took_one : (j : Kind) (xs : List Symbol) (w : List Token) (t : Token) → t.kind ≡ j → run (One j ∷ xs) (t ∷ w) ≡ run xs w
took_one j xs w t e = took (One j) [] xs (t ∷ w) w t refl (one_takes j t.kind (is_same t.kind j e))

-- what stands behind an expression, and behind statements
ends_joint : (k : Kind) → (k ≡ kind.Close) ⊎ ((k ≡ kind.CloseBlock) ⊎ ((k ≡ kind.Period) ⊎ (k ≡ kind.End))) → joint_of k ≡ joint.Nothing
unfolding joint_of
ends_joint k (inl e) = ap joint_of e
ends_joint k (inr (inl e)) = ap joint_of e
ends_joint k (inr (inr (inl e))) = ap joint_of e
ends_joint k (inr (inr (inr e))) = ap joint_of e

pub record Closes (k : Kind) : Type 0 where
  pub opening : opening_of k ≡ None
  pub returns : same_kind k kind.Return ≡ false
  pub period : same_kind k kind.Period ≡ false
  pub joint : joint_of k ≡ joint.Nothing

closes_block : (k : Kind) → k ≡ kind.CloseBlock → Closes k
unfolding opening_of joint_of
closes_block k e = record { opening = ap opening_of e; returns = ap (λ (j : Kind). same_kind j kind.Return) e; period = ap (λ (j : Kind). same_kind j kind.Period) e; joint = ap joint_of e }

pub closes_end : Closes kind.End
unfolding opening_of joint_of
closes_end = record { opening = refl; returns = refl; period = refl; joint = refl }

-- ---- what trees begin with

Opens : List Token → Type 0
Opens ts = (o : Opening) × (opening_of (kind_at ts) ≡ Some o)

expr_head : (e : Expr) (l d : ℕ) (w : List Token) → IsExpr l d e → Opens (expr e ++ w)
unfolding Opens
expr_head (Name t) l d w a = (opening.Name, a)
expr_head (Literal t) l d w a = (opening.Literal, a)
expr_head (Negative m t) l d w a = (opening.Minus, a.0)
expr_head (Array lead es close) l d w a = (opening.Array, a.0)
expr_head (Group' lead p e close) l d w a = (opening.Group, a.0)
expr_head (Block' lead h p ss q x close) l d w a = (opening.Block, a.0)
expr_head (Assign' n s p e) l d w a = (opening.Name, a.1)
expr_head (Unary' p e s) l d w a = subst Opens (sym (append_assoc (expr e) (s ∷ []) w)) (expr_head e 1 d (s ∷ w) a.1)
expr_head (Binary' p e s q b) l d w a = subst Opens (sym (append_assoc (expr e) (s ∷ expr b) w)) (expr_head e 2 d (s ∷ expr b ++ w) a.1)
expr_head (Keyword' p e q ps) l d w a = subst Opens (sym (append_assoc (expr e) (parts ps) w)) (expr_head e 2 d (parts ps ++ w) a.1)
expr_head (Cascade' p e q os) l d w a = subst Opens (sym (append_assoc (expr e) (others os) w)) (expr_head e 3 d (others os ++ w) a.1)

Joined : Joint → List Token → Type 0
Joined j ts = joint_of (kind_at ts) ≡ j

parts_joint : (ps : Parts) (d : ℕ) (w : List Token) → AreParts d ps → Joined joint.Keyword w → Joined joint.Keyword (parts ps ++ w)
unfolding Joined
parts_joint part.Start d w a h = h
parts_joint (part.Part' p ps k q e) d w a h = subst (Joined joint.Keyword) (sym (append_assoc (parts ps) (k ∷ expr e) w)) (parts_joint ps d (k ∷ expr e ++ w) a.0 a.1)

parts_head : (ps : Parts) (d : ℕ) (w : List Token) → AreParts d ps → SomeParts ps → Joined joint.Keyword (parts ps ++ w)
unfolding Joined
parts_head part.Start d w a s = absurd s
parts_head (part.Part' p ps k q e) d w a s = subst (Joined joint.Keyword) (sym (append_assoc (parts ps) (k ∷ expr e) w)) (parts_joint ps d (k ∷ expr e ++ w) a.0 a.1)

others_joint : (os : Others) (d : ℕ) (w : List Token) → AreOthers d os → Joined joint.Semicolon w → Joined joint.Semicolon (others os ++ w)
unfolding Joined
others_joint other.Start d w a h = h
others_joint (other.Unary' p os m s) d w a h = subst (Joined joint.Semicolon) (sym (append_assoc (others os) (m ∷ s ∷ []) w)) (others_joint os d (m ∷ s ∷ w) a.0 a.1)
others_joint (other.Binary' p os m s q e) d w a h = subst (Joined joint.Semicolon) (sym (append_assoc (others os) (m ∷ s ∷ expr e) w)) (others_joint os d (m ∷ s ∷ expr e ++ w) a.0 a.1)
others_joint (other.Keyword' p os m q ps) d w a h = subst (Joined joint.Semicolon) (sym (append_assoc (others os) (m ∷ parts ps) w)) (others_joint os d (m ∷ parts ps ++ w) a.0 a.1)

others_head : (os : Others) (d : ℕ) (w : List Token) → AreOthers d os → SomeOthers os → Joined joint.Semicolon (others os ++ w)
unfolding Joined
others_head other.Start d w a s = absurd s
others_head (other.Unary' p os m s) d w a h = subst (Joined joint.Semicolon) (sym (append_assoc (others os) (m ∷ s ∷ []) w)) (others_joint os d (m ∷ s ∷ w) a.0 a.1)
others_head (other.Binary' p os m s q e) d w a h = subst (Joined joint.Semicolon) (sym (append_assoc (others os) (m ∷ s ∷ expr e) w)) (others_joint os d (m ∷ s ∷ expr e ++ w) a.0 a.1)
others_head (other.Keyword' p os m q ps) d w a h = subst (Joined joint.Semicolon) (sym (append_assoc (others os) (m ∷ parts ps) w)) (others_joint os d (m ∷ parts ps ++ w) a.0 a.1)

-- statements begin with an expression or a return, or what ends them comes
pub Begins : List Token → Type 0
Begins ts = Opens ts ⊎ ((kind_at ts ≡ kind.Return) ⊎ ((kind_at ts ≡ kind.CloseBlock) ⊎ (kind_at ts ≡ kind.End)))

pub last_head : (x : Last) (d : ℕ) (w : List Token) → IsLast d x → Begins w → Begins (last_of x ++ w)
unfolding Begins
last_head last.Nothing d w a h = h
last_head (last.Value' p e) d w a h = inl (expr_head e 5 (d - 1) w a.1)
last_head (last.Return' s p e) d w a h = inr (inl a.0)
last_head (last.Closed' s p e t) d w a h = inr (inl a.0)

pub steps_head : (ss : Steps) (d : ℕ) (w : List Token) → AreSteps d ss → Begins w → Begins (steps ss ++ w)
unfolding Begins
steps_head step.Start d w a h = h
steps_head (step.Step' p ss q e t) d w a h =
    subst Begins (sym (append_assoc (steps ss) (expr e ++ t ∷ []) w)) (steps_head ss d ((expr e ++ t ∷ []) ++ w) a.0
    (subst Begins (sym (append_assoc (expr e) (t ∷ []) w)) (inl (expr_head e 5 (d - 1) (t ∷ w) a.2))))

-- a kind that begins no statements
pub begins_not : (j : Kind) (ts : List Token) → opening_of j ≡ None → (kind.Return ≡ j → ⊥) → (kind.CloseBlock ≡ j → ⊥) → (kind.End ≡ j → ⊥) → Begins ts → same_kind (kind_at ts) j ≡ false
unfolding Begins Opens
begins_not j ts o r c e (inl h) = not_same _ j (λ is. let same : Some h.0 ≡ None = sym h.1 ∙ ap opening_of is ∙ o in cc)
begins_not j ts o r c e (inr (inl h)) = not_same _ j (λ is. r (sym h ∙ is))
begins_not j ts o r c e (inr (inr (inl h))) = not_same _ j (λ is. c (sym h ∙ is))
begins_not j ts o r c e (inr (inr (inr h))) = not_same _ j (λ is. e (sym h ∙ is))

-- ---- lists of tokens

pub names_go : (ns : Names) (xs : List Symbol) (w : List Token) → AreNames ns → run (stands.Names ∷ xs) (names ns ++ w) ≡ run (stands.Names ∷ xs) w
names_go name.Start xs w a = refl
names_go (name.Name' p ns t) xs w a =
    ap (run (stands.Names ∷ xs)) (append_assoc (names ns) (t ∷ []) w) ∙ names_go ns xs (t ∷ w) a.0
    ∙ took stands.Names (stands.Names ∷ []) xs (t ∷ w) w t refl (names_takes t.kind (is_same t.kind kind.Name a.1))

pub pairs_go : (ps : Pairs) (k : Kind) (xs : List Symbol) (w : List Token) → ArePairs k ps → run (Marks k ∷ xs) (pairs ps ++ w) ≡ run (Marks k ∷ xs) w
pairs_go pair.Start k xs w a = refl
pairs_go (pair.Pair' p ps m n) k xs w a =
    ap (run (Marks k ∷ xs)) (append_assoc (pairs ps) (m ∷ n ∷ []) w) ∙ pairs_go ps k xs (m ∷ n ∷ w) a.0
    ∙ took (Marks k) (One kind.Name ∷ Marks k ∷ []) xs (m ∷ n ∷ w) (n ∷ w) m refl (marks_takes k m.kind (is_same m.kind k a.1))
    ∙ took_one kind.Name (Marks k ∷ xs) w n a.2

pairs_kind : (ps : Pairs) (k : Kind) (w : List Token) → ArePairs k ps → kind_at w ≡ k → kind_at (pairs ps ++ w) ≡ k
pairs_kind pair.Start k w a h = h
pairs_kind (pair.Pair' p ps m n) k w a h = ap kind_at (append_assoc (pairs ps) (m ∷ n ∷ []) w) ∙ pairs_kind ps k (m ∷ n ∷ w) a.0 a.1

pub pairs_head : (ps : Pairs) (k : Kind) (w : List Token) → ArePairs k ps → SomePairs ps → kind_at (pairs ps ++ w) ≡ k
pairs_head pair.Start k w a s = absurd s
pairs_head (pair.Pair' p ps m n) k w a s = ap kind_at (append_assoc (pairs ps) (m ∷ n ∷ []) w) ∙ pairs_kind ps k (m ∷ n ∷ w) a.0 a.1

elements_end : (d : ℕ) (xs : List Symbol) (w : List Token) (t : Token) → t.kind ≡ kind.Close → run (stands.Elements d ∷ One kind.Close ∷ xs) (t ∷ w) ≡ run xs w
unfolding item_of
elements_end d xs w t e = skips (stands.Elements d) (One kind.Close ∷ xs) (t ∷ w) (elements_is d t.kind None (ap item_of e)) ∙ took_one kind.Close xs w t e

elements_go : (es : Elements) (d : ℕ) (xs : List Symbol) (w : List Token) → AreElements d es → run (stands.Elements d ∷ xs) (elements es ++ w) ≡ run (stands.Elements d ∷ xs) w
elements_go element.Start d xs w a = refl
elements_go (element.One' p es t) d xs w a =
    ap (run (stands.Elements d ∷ xs)) (append_assoc (elements es) (t ∷ []) w) ∙ elements_go es d xs (t ∷ w) a.0
    ∙ took (stands.Elements d) (stands.Elements d ∷ []) xs (t ∷ w) w t refl (elements_is d t.kind (Some item.One) a.1)
elements_go (element.Nested' p es lead q inner close) d xs w a =
    ap (run (stands.Elements d ∷ xs)) (append_assoc (elements es) (lead ∷ (elements inner ++ close ∷ [])) w)
    ∙ elements_go es d xs (lead ∷ ((elements inner ++ close ∷ []) ++ w)) a.0
    ∙ took (stands.Elements d) (stands.Elements (d - 1) ∷ One kind.Close ∷ stands.Elements d ∷ []) xs (lead ∷ ((elements inner ++ close ∷ []) ++ w)) ((elements inner ++ close ∷ []) ++ w) lead refl
    (elements_is d lead.kind (Some item.Nested) a.1 ∙ deeper_some d (stands.Elements (d - 1) ∷ One kind.Close ∷ stands.Elements d ∷ []) a.2)
    ∙ ap (run (stands.Elements (d - 1) ∷ One kind.Close ∷ stands.Elements d ∷ xs)) (append_assoc (elements inner) (close ∷ []) w)
    ∙ elements_go inner (d - 1) (One kind.Close ∷ stands.Elements d ∷ xs) (close ∷ w) a.3
    ∙ elements_end (d - 1) (stands.Elements d ∷ xs) w close a.4

header_go : (h : Header) (xs : List Symbol) (w : List Token) → IsHeader h → same_kind (kind_at w) kind.Colon ≡ false → run (stands.Header ∷ xs) (header_of h ++ w) ≡ run xs w
header_go header.Nothing xs w a n = skips stands.Header xs w (header_skips (kind_at w) n)
header_go (header.Of ps bar) xs w a n =
    ap (run (stands.Header ∷ xs)) (append_assoc (pairs ps) (bar ∷ []) w)
    ∙ alike stands.Header (Marks kind.Colon) (One kind.Name ∷ Marks kind.Colon ∷ One kind.Bar ∷ []) (One kind.Name ∷ Marks kind.Colon ∷ []) xs (One kind.Bar ∷ xs) (pairs ps ++ bar ∷ w) refl
    (header_takes _ (is_same _ kind.Colon (pairs_head ps kind.Colon (bar ∷ w) a.0 a.1))) (marks_takes kind.Colon _ (is_same _ kind.Colon (pairs_head ps kind.Colon (bar ∷ w) a.0 a.1)))
    ∙ pairs_go ps kind.Colon (One kind.Bar ∷ xs) (bar ∷ w) a.0
    ∙ skips (Marks kind.Colon) (One kind.Bar ∷ xs) (bar ∷ w) (marks_skips kind.Colon bar.kind (ap (λ (k : Kind). same_kind k kind.Colon) a.2))
    ∙ took_one kind.Bar xs w bar a.2

-- ---- which expression may stand where

room : Place → ℕ
room Operand = 1
room Argument = 2
room Whole = 5

room_one : (place : Place) → 1 ≤ room place
unfolding room
room_one Operand = omega arith
room_one Argument = omega arith
room_one Whole = omega arith

room_more : (place : Place) → 2 ≤ room place → place ≡ Operand → ⊥
unfolding room
room_more place h e = let same : room place ≡ 1 = ap room e in omega (arith, h, same)

-- what may not come behind an expression
Follows : Expr → Joint → Type 0
Follows (Binary' p e s q a) j = j ≡ joint.Name → ⊥
Follows (Keyword' p e q ps) j = (j ≡ joint.Name → ⊥) × (j ≡ joint.Operator → ⊥) × (j ≡ joint.Keyword → ⊥)
Follows (Cascade' p e q os) j = j ≡ joint.Nothing
Follows (Assign' n s p e) j = j ≡ joint.Nothing
Follows _ j = Unit {0}

-- what may come behind it
left_by : Expr → Place → ℕ → List Symbol → List Symbol
left_by (Cascade' p e q os) place d xs = xs
left_by (Assign' n s p e) place d xs = xs
left_by e place d xs = After (state_of e) place d ∷ xs

follows_end : (e : Expr) (j : Joint) → j ≡ joint.Nothing → Follows e j
unfolding Follows
follows_end (Binary' p e s q a) j h = λ is. absurd (cc)
follows_end (Keyword' p e q ps) j h = (λ is. absurd (cc), λ is. absurd (cc), λ is. absurd (cc))
follows_end (Cascade' p e q os) j h = h
follows_end (Assign' n s p e) j h = h
follows_end _ j h = tt

follows_low : (e : Expr) (d : ℕ) (j : Joint) → IsExpr 1 d e → Follows e j
unfolding Follows
follows_low (Binary' p e s q a) d j h = absurd (omega (arith, h.0))
follows_low (Keyword' p e q ps) d j h = absurd (omega (arith, h.0))
follows_low (Cascade' p e q os) d j h = absurd (omega (arith, h.0))
follows_low (Assign' n s p e) d j h = absurd (omega (arith, h.0))
follows_low _ d j h = tt

follows_two : (e : Expr) (d : ℕ) (j : Joint) → IsExpr 2 d e → (j ≡ joint.Name → ⊥) → Follows e j
unfolding Follows
follows_two (Binary' p e s q a) d j h n = n
follows_two (Keyword' p e q ps) d j h n = absurd (omega (arith, h.0))
follows_two (Cascade' p e q os) d j h n = absurd (omega (arith, h.0))
follows_two (Assign' m s p e) d j h n = absurd (omega (arith, h.0))
follows_two _ d j h n = tt

follows_three : (e : Expr) (d : ℕ) (j : Joint) → IsExpr 3 d e → j ≡ joint.Semicolon → Follows e j
unfolding Follows
follows_three (Binary' p e s q a) d j h n = λ is. absurd (cc)
follows_three (Keyword' p e q ps) d j h n = (λ is. absurd (cc), λ is. absurd (cc), λ is. absurd (cc))
follows_three (Cascade' p e q os) d j h n = absurd (omega (arith, h.0))
follows_three (Assign' m s p e) d j h n = absurd (omega (arith, h.0))
follows_three _ d j h n = tt

left_low : (e : Expr) (l d : ℕ) (place : Place) (xs : List Symbol) → IsExpr l d e → l ≤ 3 → left_by e place d xs ≡ After (state_of e) place d ∷ xs
unfolding left_by
left_low (Cascade' p e q os) l d place xs h low = absurd (omega (arith, h.0, low))
left_low (Assign' n s p e) l d place xs h low = absurd (omega (arith, h.0, low))
left_low _ l d place xs h low = refl

names_low : (e : Expr) (d : ℕ) → IsExpr 1 d e → takes_names (state_of e) ≡ true
names_low (Binary' p e s q a) d h = absurd (omega (arith, h.0))
names_low (Keyword' p e q ps) d h = absurd (omega (arith, h.0))
names_low (Cascade' p e q os) d h = absurd (omega (arith, h.0))
names_low _ d h = refl

unsent_low : (e : Expr) (d : ℕ) → IsExpr 2 d e → is_sent (state_of e) ≡ false
unsent_low (Keyword' p e q ps) d h = absurd (omega (arith, h.0))
unsent_low (Cascade' p e q os) d h = absurd (omega (arith, h.0))
unsent_low _ d h = refl

message_state : (e : Expr) → IsMessage e → is_message (state_of e) ≡ true
message_state (Unary' p e t) h = refl
message_state (Binary' p e t q a) h = refl
message_state (Keyword' p e q ps) h = refl
message_state _ h = absurd h

ends_nothing : (state : State) (j : Joint) → j ≡ joint.Nothing → EndsCascade state j
ends_nothing state j h = subst (EndsCascade state) (sym h) tt

nothing_not_assign : joint.Nothing ≡ joint.Assign → ⊥
nothing_not_assign e = cc

left_ends : (e : Expr) (d : ℕ) (xs : List Symbol) (w : List Token) → joint_of (kind_at w) ≡ joint.Nothing → run (left_by e Whole d xs) w ≡ run xs w
unfolding left_by
left_ends (Cascade' p e q os) d xs w h = refl
left_ends (Assign' n s p e) d xs w h = refl
left_ends e d xs w h = whole_ends (state_of e) d xs w (ends_nothing (state_of e) (joint_of (kind_at w)) h) (λ is. nothing_not_assign (sym h ∙ is))

nested_by : (e : Expr) (d : ℕ) (xs : List Symbol) (w : List Token) → (d ≡ 0 → ⊥) → run (First Whole (d - 1) ∷ xs) (expr e ++ w) ≡ run (left_by e Whole (d - 1) xs) w → joint_of (kind_at w) ≡ joint.Nothing
    → run (Nested d ∷ xs) (expr e ++ w) ≡ run xs w
nested_by e d xs w some is end = nested_some d xs (expr e ++ w) some ∙ is ∙ left_ends e (d - 1) xs w end

keywords_done : (d : ℕ) (xs : List Symbol) (w : List Token) → (joint_of (kind_at w) ≡ joint.Keyword → ⊥) → run (Keywords d ∷ xs) w ≡ run xs w
keywords_done d xs w n = skips (Keywords d) xs w (keywords_is d (kind_at w) _ refl ∙ keywords_skip d _ n)

others_done : (d : ℕ) (xs : List Symbol) (w : List Token) → (joint_of (kind_at w) ≡ joint.Semicolon → ⊥) → run (stands.Others d ∷ xs) w ≡ run xs w
others_done d xs w n = skips (stands.Others d) xs w (others_is d (kind_at w) _ refl ∙ others_skip d _ n)

-- joints that differ
joint_not_keyword_name : joint.Keyword ≡ joint.Name → ⊥
joint_not_keyword_name e = cc

joint_not_keyword_operator : joint.Keyword ≡ joint.Operator → ⊥
joint_not_keyword_operator e = cc

joint_not_nothing_keyword : joint.Nothing ≡ joint.Keyword → ⊥
joint_not_nothing_keyword e = cc

joint_not_nothing_name : joint.Nothing ≡ joint.Name → ⊥
joint_not_nothing_name e = cc

joint_not_nothing_operator : joint.Nothing ≡ joint.Operator → ⊥
joint_not_nothing_operator e = cc

joint_not_nothing_semicolon : joint.Nothing ≡ joint.Semicolon → ⊥
joint_not_nothing_semicolon e = cc

joint_not_operator_name : joint.Operator ≡ joint.Name → ⊥
joint_not_operator_name e = cc

joint_not_semicolon_keyword : joint.Semicolon ≡ joint.Keyword → ⊥
joint_not_semicolon_keyword e = cc

joint_not_semicolon_name : joint.Semicolon ≡ joint.Name → ⊥
joint_not_semicolon_name e = cc

joint_not_semicolon_operator : joint.Semicolon ≡ joint.Operator → ⊥
joint_not_semicolon_operator e = cc

room_two : 2 ≤ room Argument
unfolding room
room_two = omega arith

room_five : 5 ≤ room Whole
unfolding room
room_five = omega arith

return_opens : (k : Kind) → k ≡ kind.Return → opening_of k ≡ None
unfolding opening_of
return_opens k e = ap opening_of e

begins_close : (ts : List Token) → kind_at ts ≡ kind.CloseBlock → Begins ts
unfolding Begins
begins_close ts e = inr (inr (inl e))

begins_colon : (ts : List Token) → Begins ts → same_kind (kind_at ts) kind.Colon ≡ false
unfolding opening_of
begins_colon ts h = begins_not kind.Colon ts refl (λ e. cc) (λ e. cc) (λ e. cc) h

-- ---- expressions and statements

mutual
  unfolding left_by room Follows Joined Opens

  expr_runs : (e : Expr) (l d : ℕ) (place : Place) (xs : List Symbol) (w : List Token) → IsExpr l d e → l ≤ room place → Follows e (joint_of (kind_at w)) → run (First place d ∷ xs) (expr e ++ w) ≡ run (left_by e place d xs) w
  expr_runs (Name t) l d place xs w a r f = first_some place d xs (t ∷ w) w t opening.Name refl a refl
  expr_runs (Literal t) l d place xs w a r f = first_some place d xs (t ∷ w) w t opening.Literal refl a refl
  expr_runs (Negative m t) l d place xs w a r f = first_some place d xs (m ∷ t ∷ w) (t ∷ w) m opening.Minus refl a.0 refl ∙ took_one kind.Integer (After Plain place d ∷ xs) w t a.1
  expr_runs (Array lead es close) l d place xs w a r f =
      first_some place d xs (lead ∷ ((elements es ++ close ∷ []) ++ w)) ((elements es ++ close ∷ []) ++ w) lead opening.Array refl a.0 refl
      ∙ ap (run (stands.Elements MOST_NESTED ∷ One kind.Close ∷ After Plain place d ∷ xs)) (append_assoc (elements es) (close ∷ []) w)
      ∙ elements_go es MOST_NESTED (One kind.Close ∷ After Plain place d ∷ xs) (close ∷ w) a.1 ∙ elements_end MOST_NESTED (After Plain place d ∷ xs) w close a.2
  expr_runs (Group' lead p e close) l d place xs w a r f =
      first_some place d xs (lead ∷ ((expr e ++ close ∷ []) ++ w)) ((expr e ++ close ∷ []) ++ w) lead opening.Group refl a.0 (ne_eqb d 0 a.1)
      ∙ ap (run (Nested d ∷ One kind.Close ∷ After Plain place d ∷ xs)) (append_assoc (expr e) (close ∷ []) w)
      ∙ nested_by e d (One kind.Close ∷ After Plain place d ∷ xs) (close ∷ w) a.1
      (expr_runs e 5 (d - 1) Whole (One kind.Close ∷ After Plain place d ∷ xs) (close ∷ w) a.2 (omega arith) (follows_end e _ (ends_joint _ (inl a.3)))) (ends_joint _ (inl a.3))
      ∙ took_one kind.Close (After Plain place d ∷ xs) w close a.3
  expr_runs (Block' lead h p ss q x close) l d place xs w a r f =
      first_some place d xs (lead ∷ ((header_of h ++ ((steps ss ++ last_of x) ++ close ∷ [])) ++ w)) ((header_of h ++ ((steps ss ++ last_of x) ++ close ∷ [])) ++ w) lead opening.Block refl a.0 refl
      ∙ ap (run (stands.Header ∷ Body d ∷ One kind.CloseBlock ∷ After Plain place d ∷ xs)) (append_assoc (header_of h) ((steps ss ++ last_of x) ++ close ∷ []) w ∙ ap (λ (ts : List Token). header_of h ++ ts) (append_assoc (steps ss ++ last_of x) (close ∷ []) w))
      ∙ header_go h (Body d ∷ One kind.CloseBlock ∷ After Plain place d ∷ xs) ((steps ss ++ last_of x) ++ close ∷ w) a.1
      (begins_colon _ (subst Begins (sym (append_assoc (steps ss) (last_of x) (close ∷ w))) (steps_head ss d (last_of x ++ close ∷ w) a.2 (last_head x d (close ∷ w) a.3 (begins_close (close ∷ w) a.4)))))
      ∙ ap (run (Body d ∷ One kind.CloseBlock ∷ After Plain place d ∷ xs)) (append_assoc (steps ss) (last_of x) (close ∷ w))
      ∙ steps_go ss d (One kind.CloseBlock ∷ After Plain place d ∷ xs) (last_of x ++ close ∷ w) a.2
      ∙ last_go x d (One kind.CloseBlock ∷ After Plain place d ∷ xs) (close ∷ w) a.3 (closes_block close.kind a.4)
      ∙ took_one kind.CloseBlock (After Plain place d ∷ xs) w close a.4
  expr_runs (Assign' n s p e) l d Operand xs w a r f = absurd (omega (arith, a.0, r))
  expr_runs (Assign' n s p e) l d Argument xs w a r f = absurd (omega (arith, a.0, r))
  expr_runs (Assign' n s p e) l d Whole xs w a r f =
      first_some Whole d xs (n ∷ s ∷ expr e ++ w) (s ∷ expr e ++ w) n opening.Name refl a.1 refl
      ∙ took (After Named Whole d) (Nested d ∷ []) xs (s ∷ expr e ++ w) (expr e ++ w) s refl (after_is Named Whole d s.kind joint.Assign a.2 ∙ deeper_some d (Nested d ∷ []) a.3)
      ∙ nested_by e d xs w a.3 (expr_runs e 5 (d - 1) Whole xs w a.4 (omega arith) (follows_end e _ f)) f
  expr_runs (Unary' p e s) l d place xs w a r f =
      ap (run (First place d ∷ xs)) (append_assoc (expr e) (s ∷ []) w)
      ∙ expr_runs e 1 d place xs (s ∷ w) a.1 (room_one place) (follows_low e d _ a.1)
      ∙ ap (λ (zs : List Symbol). run zs (s ∷ w)) (left_low e 1 d place xs a.1 (omega arith))
      ∙ took (After (state_of e) place d) (After Unary place d ∷ []) xs (s ∷ w) w s refl (after_is (state_of e) place d s.kind joint.Name a.2 ∙ name_takes (state_of e) place d (names_low e d a.1))
  expr_runs (Binary' p e s q b) l d place xs w a r f =
      ap (run (First place d ∷ xs)) (append_assoc (expr e) (s ∷ expr b) w)
      ∙ expr_runs e 2 d place xs (s ∷ expr b ++ w) a.1 (omega (arith, a.0, r)) (follows_two e d _ a.1 (λ is. joint_not_operator_name (sym a.2 ∙ is)))
      ∙ ap (λ (zs : List Symbol). run zs (s ∷ expr b ++ w)) (left_low e 2 d place xs a.1 (omega arith))
      ∙ took (After (state_of e) place d) (First Operand d ∷ After Binary place d ∷ []) xs (s ∷ expr b ++ w) (expr b ++ w) s refl
      (after_is (state_of e) place d s.kind joint.Operator a.2 ∙ operator_takes (state_of e) place d (room_more place (omega (arith, a.0, r))) (unsent_low e d a.1))
      ∙ expr_runs b 1 d Operand (After Binary place d ∷ xs) w a.3 (omega arith) (follows_low b d _ a.3)
      ∙ ap (λ (zs : List Symbol). run zs w) (left_low b 1 d Operand (After Binary place d ∷ xs) a.3 (omega arith))
      ∙ operand_ends (state_of b) d (After Binary place d ∷ xs) w f
  expr_runs (Keyword' p e q ps) l d Operand xs w a r f = absurd (omega (arith, a.0, r))
  expr_runs (Keyword' p e q ps) l d Argument xs w a r f = absurd (omega (arith, a.0, r))
  expr_runs (Keyword' p e q ps) l d Whole xs w a r f =
      ap (run (First Whole d ∷ xs)) (append_assoc (expr e) (parts ps) w)
      ∙ expr_runs e 2 d Whole xs (parts ps ++ w) a.1 (omega arith) (follows_two e d _ a.1 (λ is. joint_not_keyword_name (sym (parts_head ps d w a.2 a.3) ∙ is)))
      ∙ ap (λ (zs : List Symbol). run zs (parts ps ++ w)) (left_low e 2 d Whole xs a.1 (omega arith))
      ∙ to_keywords (state_of e) d xs (parts ps ++ w) (unsent_low e d a.1) (parts_head ps d w a.2 a.3)
      ∙ parts_go ps d (After Sent Whole d ∷ xs) w a.2 f.0 f.1 ∙ keywords_done d (After Sent Whole d ∷ xs) w f.2
  expr_runs (Cascade' p e q os) l d Operand xs w a r f = absurd (omega (arith, a.0, r))
  expr_runs (Cascade' p e q os) l d Argument xs w a r f = absurd (omega (arith, a.0, r))
  expr_runs (Cascade' p e q os) l d Whole xs w a r f =
      ap (run (First Whole d ∷ xs)) (append_assoc (expr e) (others os) w)
      ∙ expr_runs e 3 d Whole xs (others os ++ w) a.1 (omega arith) (follows_three e d _ a.1 (others_head os d w a.3 a.4))
      ∙ ap (λ (zs : List Symbol). run zs (others os ++ w)) (left_low e 3 d Whole xs a.1 (omega arith))
      ∙ to_others (state_of e) d xs (others os ++ w) (message_state e a.2) (others_head os d w a.3 a.4)
      ∙ others_go os d xs w a.3 (λ is. joint_not_nothing_name (sym f ∙ is)) (λ is. joint_not_nothing_operator (sym f ∙ is)) (λ is. joint_not_nothing_keyword (sym f ∙ is))
      ∙ others_done d xs w (λ is. joint_not_nothing_semicolon (sym f ∙ is))

  parts_go : (ps : Parts) (d : ℕ) (xs : List Symbol) (w : List Token) → AreParts d ps → (joint_of (kind_at w) ≡ joint.Name → ⊥) → (joint_of (kind_at w) ≡ joint.Operator → ⊥) → run (Keywords d ∷ xs) (parts ps ++ w) ≡ run (Keywords d ∷ xs) w
  parts_go part.Start d xs w a n o = refl
  parts_go (part.Part' p ps k q e) d xs w a n o =
      ap (run (Keywords d ∷ xs)) (append_assoc (parts ps) (k ∷ expr e) w)
      ∙ parts_go ps d xs (k ∷ expr e ++ w) a.0 (λ is. joint_not_keyword_name (sym a.1 ∙ is)) (λ is. joint_not_keyword_operator (sym a.1 ∙ is))
      ∙ took (Keywords d) (First Argument d ∷ Keywords d ∷ []) xs (k ∷ expr e ++ w) (expr e ++ w) k refl (keywords_is d k.kind joint.Keyword a.1)
      ∙ expr_runs e 2 d Argument (Keywords d ∷ xs) w a.2 room_two (follows_two e d _ a.2 n)
      ∙ ap (λ (zs : List Symbol). run zs w) (left_low e 2 d Argument (Keywords d ∷ xs) a.2 (omega arith))
      ∙ argument_ends (state_of e) d (Keywords d ∷ xs) w n o

  others_go : (os : Others) (d : ℕ) (xs : List Symbol) (w : List Token) → AreOthers d os → (joint_of (kind_at w) ≡ joint.Name → ⊥) → (joint_of (kind_at w) ≡ joint.Operator → ⊥) → (joint_of (kind_at w) ≡ joint.Keyword → ⊥)
      → run (stands.Others d ∷ xs) (others os ++ w) ≡ run (stands.Others d ∷ xs) w
  others_go other.Start d xs w a n o k = refl
  others_go (other.Unary' p os m s) d xs w a n o k =
      ap (run (stands.Others d ∷ xs)) (append_assoc (others os) (m ∷ s ∷ []) w)
      ∙ others_go os d xs (m ∷ s ∷ w) a.0 (λ is. joint_not_semicolon_name (sym a.1 ∙ is)) (λ is. joint_not_semicolon_operator (sym a.1 ∙ is)) (λ is. joint_not_semicolon_keyword (sym a.1 ∙ is))
      ∙ took (stands.Others d) (Message d ∷ stands.Others d ∷ []) xs (m ∷ s ∷ w) (s ∷ w) m refl (others_is d m.kind joint.Semicolon a.1)
      ∙ took (Message d) [] (stands.Others d ∷ xs) (s ∷ w) w s refl (message_is d s.kind joint.Name a.2)
  others_go (other.Binary' p os m s q e) d xs w a n o k =
      ap (run (stands.Others d ∷ xs)) (append_assoc (others os) (m ∷ s ∷ expr e) w)
      ∙ others_go os d xs (m ∷ s ∷ expr e ++ w) a.0 (λ is. joint_not_semicolon_name (sym a.1 ∙ is)) (λ is. joint_not_semicolon_operator (sym a.1 ∙ is)) (λ is. joint_not_semicolon_keyword (sym a.1 ∙ is))
      ∙ took (stands.Others d) (Message d ∷ stands.Others d ∷ []) xs (m ∷ s ∷ expr e ++ w) (s ∷ expr e ++ w) m refl (others_is d m.kind joint.Semicolon a.1)
      ∙ took (Message d) (First Operand d ∷ []) (stands.Others d ∷ xs) (s ∷ expr e ++ w) (expr e ++ w) s refl (message_is d s.kind joint.Operator a.2)
      ∙ expr_runs e 1 d Operand (stands.Others d ∷ xs) w a.3 (room_one Operand) (follows_low e d _ a.3)
      ∙ ap (λ (zs : List Symbol). run zs w) (left_low e 1 d Operand (stands.Others d ∷ xs) a.3 (omega arith))
      ∙ operand_ends (state_of e) d (stands.Others d ∷ xs) w n
  others_go (other.Keyword' p os m q ps) d xs w a n o k =
      ap (run (stands.Others d ∷ xs)) (append_assoc (others os) (m ∷ parts ps) w)
      ∙ others_go os d xs (m ∷ parts ps ++ w) a.0 (λ is. joint_not_semicolon_name (sym a.1 ∙ is)) (λ is. joint_not_semicolon_operator (sym a.1 ∙ is)) (λ is. joint_not_semicolon_keyword (sym a.1 ∙ is))
      ∙ took (stands.Others d) (Message d ∷ stands.Others d ∷ []) xs (m ∷ parts ps ++ w) (parts ps ++ w) m refl (others_is d m.kind joint.Semicolon a.1)
      ∙ to_parts d (stands.Others d ∷ xs) (parts ps ++ w) (parts_head ps d w a.2 a.3)
      ∙ parts_go ps d (stands.Others d ∷ xs) w a.2 n o ∙ keywords_done d (stands.Others d ∷ xs) w k

  pub steps_go : (ss : Steps) (d : ℕ) (xs : List Symbol) (w : List Token) → AreSteps d ss → run (Body d ∷ xs) (steps ss ++ w) ≡ run (Body d ∷ xs) w
  steps_go step.Start d xs w a = refl
  steps_go (step.Step' p ss q e t) d xs w a =
      let head = expr_head e 5 (d - 1) (t ∷ w) a.2 in
      let ends : joint_of t.kind ≡ joint.Nothing = ends_joint t.kind (inr (inr (inl a.3))) in
      ap (run (Body d ∷ xs)) (append_assoc (steps ss) (expr e ++ t ∷ []) w)
      ∙ steps_go ss d xs ((expr e ++ t ∷ []) ++ w) a.0 ∙ ap (run (Body d ∷ xs)) (append_assoc (expr e) (t ∷ []) w)
      ∙ body_first d xs (expr e ++ t ∷ w) head.0 head.1
      ∙ nested_by e d (Behind d ∷ xs) (t ∷ w) a.1 (expr_runs e 5 (d - 1) Whole (Behind d ∷ xs) (t ∷ w) a.2 room_five (follows_end e _ ends)) ends
      ∙ took (Behind d) (Body d ∷ []) xs (t ∷ w) w t refl (behind_takes d t.kind (is_same t.kind kind.Period a.3))

  pub last_go : (x : Last) (d : ℕ) (xs : List Symbol) (w : List Token) → IsLast d x → Closes (kind_at w) → run (Body d ∷ xs) (last_of x ++ w) ≡ run xs w
  last_go last.Nothing d xs w a c = body_ends d xs w c.opening c.returns
  last_go (last.Value' p e) d xs w a c =
      let head = expr_head e 5 (d - 1) w a.1 in
      body_first d xs (expr e ++ w) head.0 head.1
      ∙ nested_by e d (Behind d ∷ xs) w a.0 (expr_runs e 5 (d - 1) Whole (Behind d ∷ xs) w a.1 room_five (follows_end e _ c.joint)) c.joint
      ∙ skips (Behind d) xs w (behind_skips d (kind_at w) c.period)
  last_go (last.Return' s p e) d xs w a c =
      body_returns d xs (s ∷ expr e ++ w) (expr e ++ w) s refl (return_opens s.kind a.0) (is_same s.kind kind.Return a.0) a.1
      ∙ nested_by e d (Dot ∷ xs) w a.1 (expr_runs e 5 (d - 1) Whole (Dot ∷ xs) w a.2 room_five (follows_end e _ c.joint)) c.joint
      ∙ skips Dot xs w (dot_skips (kind_at w) c.period)
  last_go (last.Closed' s p e t) d xs w a c =
      let ends : joint_of t.kind ≡ joint.Nothing = ends_joint t.kind (inr (inr (inl a.3))) in
      ap (run (Body d ∷ xs)) (ap (λ (ts : List Token). s ∷ ts) (append_assoc (expr e) (t ∷ []) w))
      ∙ body_returns d xs (s ∷ expr e ++ t ∷ w) (expr e ++ t ∷ w) s refl (return_opens s.kind a.0) (is_same s.kind kind.Return a.0) a.1
      ∙ nested_by e d (Dot ∷ xs) (t ∷ w) a.1 (expr_runs e 5 (d - 1) Whole (Dot ∷ xs) (t ∷ w) a.2 room_five (follows_end e _ ends)) ends
      ∙ took Dot [] xs (t ∷ w) w t refl (dot_takes t.kind (is_same t.kind kind.Period a.3))

pub begins_end : Begins []
unfolding Begins
begins_end = inr (inr (inr refl))
