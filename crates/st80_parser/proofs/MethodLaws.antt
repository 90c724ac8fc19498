-- What a method of the grammar is written as is taken, all of it.
use Rattle.std.proofs.Common.{◌≡◌, ◌≢◌, ◌<◌, ◌≤◌, ◌⊎◌, ℕ, ◌-◌, ◌==◌, ◌&&◌, Bool, true, false, List, [], ◌∷◌, ◌++◌, length, Some, None, inl, inr, refl, sym, ap, subst, ◌∙◌, append_assoc, append-nil, ne_eqb, arith, rules, true≢false}
use denote.Enum.Bare.{false_same, same_true, true_same}
use Rattle.st80_syntax.specs.declared.token.Token.{Token}
use Rattle.st80_syntax.specs.declared.token.Kind.{Kind}
use Rattle.st80_syntax.specs.declared.token.Kind.TheVariants as kind
use Rattle.st80_syntax.specs.contracts.token.Kind.{the_type}
use Rattle.st80_parser.specs.declared.arrays.TheConstants.{MOST_NESTED}
use Rattle.st80_parser.specs.declared.kinds.Opening.{Opening}
use Rattle.st80_parser.specs.declared.kinds.Opening.TheVariants as opening
use Rattle.st80_parser.specs.declared.kinds.Joint.{Joint}
use Rattle.st80_parser.specs.declared.kinds.Joint.TheVariants as joint
use Rattle.st80_parser.specs.declared.kinds.Item.TheVariants as item
use Rattle.st80_parser.specs.declared.tree.Expr.{Expr}
use Rattle.st80_parser.specs.declared.tree.Expr.TheVariants.{Name, Literal, Negative, Array, Group', Block', Assign', Unary', Binary', Keyword', Cascade'}
use Rattle.st80_parser.specs.declared.tree.Parts.{Parts}
use Rattle.st80_parser.specs.declared.tree.Parts.TheVariants as part
use Rattle.st80_parser.specs.declared.tree.Others.{Others}
use Rattle.st80_parser.specs.declared.tree.Others.TheVariants as other
use Rattle.st80_parser.specs.declared.tree.Steps.{Steps}
use Rattle.st80_parser.specs.declared.tree.Steps.TheVariants as step
use Rattle.st80_parser.specs.declared.tree.Last.{Last}
use Rattle.st80_parser.specs.declared.tree.Last.TheVariants as last
use Rattle.st80_parser.specs.declared.tree.Elements.{Elements}
use Rattle.st80_parser.specs.declared.tree.Elements.TheVariants as element
use Rattle.st80_parser.specs.declared.tree.Pairs.{Pairs}
use Rattle.st80_parser.specs.declared.tree.Pairs.TheVariants as pair
use Rattle.st80_parser.specs.declared.tree.Header.{Header}
use Rattle.st80_parser.specs.declared.tree.Header.TheVariants as header
use Rattle.st80_parser.specs.declared.tree.Names.{Names}
use Rattle.st80_parser.specs.declared.tree.Names.TheVariants as name
use Rattle.st80_parser.specs.declared.tree.Temporaries.{Temporaries}
use Rattle.st80_parser.specs.declared.tree.Temporaries.TheVariants as temporaries
use Rattle.st80_parser.specs.declared.tree.Primitive.{Primitive}
use Rattle.st80_parser.specs.declared.tree.Primitive.TheVariants as primitive
use Rattle.st80_parser.specs.declared.tree.Pattern.{Pattern}
use Rattle.st80_parser.specs.declared.tree.Pattern.TheVariants as pattern
use Rattle.st80_parser.specs.declared.tree.Method.{Method}
use Rattle.st80_parser.specs.Kinds.{item_of, joint_of, kind_at, opening_of, same_kind}
use Rattle.st80_parser.specs.Grammar.{AreElements, AreNames, AreOthers, ArePairs, AreParts, AreSteps, AreTemporaries, IsExpr, IsHeader, IsLast, IsMessage, IsMethod, IsPattern, IsPrimitive, SomeOthers, SomePairs, SomeParts}
use Rattle.st80_parser.specs.Stands as stands
use Rattle.st80_parser.specs.Stands.{After, Argument, Behind, Binary, Body, Dot, EndsCascade, First, Keywords, Marks, Message, Named, Nested, One, Operand, Place, Plain, Selector, Sent, State, Symbol, Taken, Takes, Unary, Whole, after, are_done, is_message, is_sent, run, start, state_of, takes_names}
use Rattle.st80_parser.specs.Written.{elements, expr, header_of, last_of, method, names, others, pairs, parts, pattern_of, primitive_of, steps, temporaries_of}
use Rattle.st80_parser.proofs.StandLaws.{after_is, alike, argument_ends, behind_skips, behind_takes, body_ends, body_first, body_returns, deeper_some, dot_skips, dot_takes, elements_is, first_some, header_skips, header_takes, keyword_takes, keywords_is, keywords_skip, marks_skips, marks_takes, message_is, name_takes, names_skips, names_takes, nested_some, one_takes, operand_ends, operator_takes, others_is, others_skip, primitive_skips, primitive_takes, selector_is, semicolon_takes, skips, takes, temporaries_skips, temporaries_takes, took, whole_ends}
use Rattle.st80_parser.proofs.TreeLaws.{Begins, Closes, begins_end, begins_not, closes_end, is_same, last_go, last_head, names_go, not_same, pairs_go, pairs_head, steps_go, steps_head, took_one}

-- ---- methods

temporaries_go : (x : Temporaries) (xs : List Symbol) (w : List Token) → AreTemporaries x → same_kind (kind_at w) kind.Bar ≡ false → run (stands.Temporaries ∷ xs) (temporaries_of x ++ w) ≡ run xs w
temporaries_go temporaries.Nothing xs w a n = skips stands.Temporaries xs w (temporaries_skips (kind_at w) n)
temporaries_go (temporaries.Of lead ns close) xs w a n =
    took stands.Temporaries (stands.Names ∷ One kind.Bar ∷ []) xs (lead ∷ ((names ns ++ close ∷ []) ++ w)) ((names ns ++ close ∷ []) ++ w) lead refl (temporaries_takes lead.kind (is_same lead.kind kind.Bar a.0))
    ∙ ap (run (stands.Names ∷ One kind.Bar ∷ xs)) (append_assoc (names ns) (close ∷ []) w) ∙ names_go ns (One kind.Bar ∷ xs) (close ∷ w) a.1
    ∙ skips stands.Names (One kind.Bar ∷ xs) (close ∷ w) (names_skips close.kind (ap (λ (k : Kind). same_kind k kind.Name) a.2)) ∙ took_one kind.Bar xs w close a.2

primitive_go : (x : Primitive) (xs : List Symbol) (w : List Token) → IsPrimitive x → same_kind (kind_at w) kind.Binary ≡ false → run (stands.Primitive ∷ xs) (primitive_of x ++ w) ≡ run xs w
primitive_go primitive.Nothing xs w a n = skips stands.Primitive xs w (primitive_skips (kind_at w) n)
primitive_go (primitive.Of lead word number close) xs w a n =
    took stands.Primitive (One kind.Keyword ∷ One kind.Integer ∷ One kind.Binary ∷ []) xs (lead ∷ word ∷ number ∷ close ∷ w) (word ∷ number ∷ close ∷ w) lead refl (primitive_takes lead.kind (is_same lead.kind kind.Binary a.0))
    ∙ took_one kind.Keyword (One kind.Integer ∷ One kind.Binary ∷ xs) (number ∷ close ∷ w) word a.1
    ∙ took_one kind.Integer (One kind.Binary ∷ xs) (close ∷ w) number a.2 ∙ took_one kind.Binary xs w close a.3

pattern_go : (x : Pattern) (xs : List Symbol) (w : List Token) → IsPattern true x → same_kind (kind_at w) kind.Keyword ≡ false → run (Selector ∷ xs) (pattern_of x ++ w) ≡ run xs w
unfolding joint_of
pattern_go pattern.Nothing xs w a n = absurd a
pattern_go (pattern.Unary s) xs w a n = took Selector [] xs (s ∷ w) w s refl (selector_is s.kind joint.Name a)
pattern_go (pattern.Binary s t) xs w a n = took Selector (One kind.Name ∷ []) xs (s ∷ t ∷ w) (t ∷ w) s refl (selector_is s.kind joint.Operator a.0) ∙ took_one kind.Name xs w t a.1
pattern_go (pattern.Keyword ps) xs w a n =
    alike Selector (Marks kind.Keyword) (One kind.Name ∷ Marks kind.Keyword ∷ []) (One kind.Name ∷ Marks kind.Keyword ∷ []) xs xs (pairs ps ++ w) refl
    (selector_is _ joint.Keyword (ap joint_of (pairs_head ps kind.Keyword w a.0 a.1))) (marks_takes kind.Keyword _ (is_same _ kind.Keyword (pairs_head ps kind.Keyword w a.0 a.1)))
    ∙ pairs_go ps kind.Keyword xs w a.0 ∙ skips (Marks kind.Keyword) xs w (marks_skips kind.Keyword (kind_at w) n)

bar_not_keyword : kind.Bar ≡ kind.Keyword → ⊥
bar_not_keyword e = cc

-- a kind that no primitive and no statements begin with, and no temporaries
tail_not : (j : Kind) (x : Primitive) (ts : List Token) → IsPrimitive x → opening_of j ≡ None → (kind.Return ≡ j → ⊥) → (kind.CloseBlock ≡ j → ⊥) → (kind.End ≡ j → ⊥) → (kind.Binary ≡ j → ⊥) → Begins ts → same_kind (kind_at (primitive_of x ++ ts)) j ≡ false
tail_not j primitive.Nothing ts a o r c e b h = begins_not j ts o r c e h
tail_not j (primitive.Of lead word number close) ts a o r c e b h = not_same _ j (λ is. b (sym a.0 ∙ is))

whole_not : (x : Temporaries) (y : Primitive) (ts : List Token) → AreTemporaries x → IsPrimitive y → Begins ts → same_kind (kind_at (temporaries_of x ++ (primitive_of y ++ ts))) kind.Keyword ≡ false
unfolding opening_of
whole_not temporaries.Nothing y ts a b h = tail_not kind.Keyword y ts b refl (λ e. cc) (λ e. cc) (λ e. cc) (λ e. cc) h
whole_not (temporaries.Of lead ns close) y ts a b h = not_same _ kind.Keyword (λ is. bar_not_keyword (sym a.0 ∙ is))

bar_other : (y : Primitive) (ts : List Token) → IsPrimitive y → Begins ts → same_kind (kind_at (primitive_of y ++ ts)) kind.Bar ≡ false
unfolding opening_of
bar_other y ts b h = tail_not kind.Bar y ts b refl (λ e. cc) (λ e. cc) (λ e. cc) (λ e. cc) h

binary_other : (ts : List Token) → Begins ts → same_kind (kind_at ts) kind.Binary ≡ false
unfolding opening_of
binary_other ts h = begins_not kind.Binary ts refl (λ e. cc) (λ e. cc) (λ e. cc) h

-- statements to the end
body_taken : (ss : Steps) (x : Last) → AreSteps MOST_NESTED ss → IsLast MOST_NESTED x → run (Body MOST_NESTED ∷ []) (steps ss ++ last_of x) ≡ Taken
unfolding run are_done
body_taken ss x a b =
    steps_go ss MOST_NESTED [] (last_of x) a ∙ ap (run (Body MOST_NESTED ∷ [])) (sym (append-nil (last_of x))) ∙ last_go x MOST_NESTED [] [] b closes_end

body_begins : (ss : Steps) (x : Last) → AreSteps MOST_NESTED ss → IsLast MOST_NESTED x → Begins (steps ss ++ last_of x)
body_begins ss x a b = steps_head ss MOST_NESTED (last_of x) a (subst Begins (append-nil (last_of x)) (last_head x MOST_NESTED [] b begins_end))

-- what stands behind a selector
behind_taken : (m : Method) (b : Bool) → IsMethod b m → run (start false) (temporaries_of m.temporaries ++ (primitive_of m.primitive ++ (steps m.steps ++ last_of m.last))) ≡ Taken
behind_taken m b a =
    temporaries_go m.temporaries (stands.Primitive ∷ Body MOST_NESTED ∷ []) (primitive_of m.primitive ++ (steps m.steps ++ last_of m.last)) a.temporaries (bar_other m.primitive _ a.primitive (body_begins m.steps m.last a.steps a.last))
    ∙ primitive_go m.primitive (Body MOST_NESTED ∷ []) (steps m.steps ++ last_of m.last) a.primitive (binary_other _ (body_begins m.steps m.last a.steps a.last))
    ∙ body_taken m.steps m.last a.steps a.last

no_pattern : (x : Pattern) → IsPattern false x → pattern_of x ≡ []
no_pattern pattern.Nothing a = refl
no_pattern _ a = absurd a

-- a tree of the grammar is taken
pub method_runs : (b : Bool) (m : Method) → IsMethod b m → run (start b) (method m) ≡ Taken
unfolding method
method_runs true m a =
    pattern_go m.pattern (start false) (temporaries_of m.temporaries ++ (primitive_of m.primitive ++ (steps m.steps ++ last_of m.last))) a.pattern
    (whole_not m.temporaries m.primitive _ a.temporaries a.primitive (body_begins m.steps m.last a.steps a.last)) ∙ behind_taken m true a
method_runs false m a =
    ap (λ (ts : List Token). run (start false) (ts ++ (temporaries_of m.temporaries ++ (primitive_of m.primitive ++ (steps m.steps ++ last_of m.last))))) (no_pattern m.pattern a.pattern) ∙ behind_taken m false a
