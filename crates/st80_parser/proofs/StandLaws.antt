-- What one token does to where the parser stands, and what rules one behind another do.
use Rattle.std.proofs.Common.{◌≡◌, ◌≢◌, ◌≤◌, ℕ, suc, ◌-◌, ◌==◌, ◌&&◌, Bool, true, false, cond, List, [], ◌∷◌, ◌++◌, length, Option, Some, None, Result, Ok, Err, IfOk, IsErrAnd, refl, sym, ap, subst, ◌∙◌, append_assoc, eq-eqb, ne_eqb, if◌then◌else◌, true≢false, ◌<◌, arith}
use Rattle.st80_syntax.specs.declared.token.Token.{Token}
use Rattle.st80_syntax.specs.declared.token.Kind.{Kind}
use Rattle.st80_syntax.specs.declared.token.Kind.TheVariants as kind
use Rattle.st80_parser.specs.declared.error.ParseError.{ParseError}
use Rattle.st80_parser.specs.declared.error.ParseError.TheVariants as error
use Rattle.st80_parser.specs.declared.kinds.Opening.{Opening}
use Rattle.st80_parser.specs.declared.kinds.Opening.TheVariants as opening
use Rattle.st80_parser.specs.declared.kinds.Joint.{Joint}
use Rattle.st80_parser.specs.declared.kinds.Joint.TheVariants as joint
use Rattle.st80_parser.specs.declared.kinds.Item.{Item}
use Rattle.st80_parser.specs.declared.kinds.Item.TheVariants as item
use denote.Enum.Bare.{same_false}
use Rattle.std.specs.declared.alloc.AllocError.{AllocError}
use Rattle.st80_parser.specs.contracts.kinds.Joint as joints
use Rattle.st80_parser.specs.declared.tree.Expr.{Expr}
use Rattle.st80_parser.specs.Kinds.{item_of, joint_of, kind_at, opening_of, same_joint, same_kind}
use Rattle.st80_parser.specs.Stands.{After, Argument, Behind, Binary, Body, Dot, Elements, EndsCascade, EndsMessage, Fed, First, Header, Keywords, Marks, Message, Named, Names, Nested, One, Operand, Others, Place, Plain, Primitive, Refuses, Runs, Selector, Sent, Skips, State, Stopped, Stops, Symbol, Taken, Takes, Temporaries, Unary, Verdict, Whole, after, after_assign, after_keyword, after_name, after_operator, after_semicolon, are_done, begun, behind_token, body, by_first, cascades, deeper, elements, feed, first, go_on, inside, is_done, is_group, is_message, is_named, is_sent, keywords, message, nested, others, primary, run, selector, state_of, takes_names}

-- ---- one symbol

pub skips : (x : Symbol) (xs : List Symbol) (ts : List Token) → feed x (kind_at ts) ≡ Skips → run (x ∷ xs) ts ≡ run xs ts
unfolding run are_done behind_token
skips x xs [] e = ap (λ (f : Fed). if is_done f && are_done xs then Taken else Stopped []) e
skips x xs (t ∷ ts) e = ap (λ (f : Fed). go_on (by_first f xs (behind_token xs t.kind)) (λ ys. run ys ts) (Stopped (t ∷ ts))) e

pub refuses : (x : Symbol) (xs : List Symbol) (ts : List Token) → feed x (kind_at ts) ≡ Refuses → run (x ∷ xs) ts ≡ Stopped ts
unfolding run are_done behind_token
refuses x xs [] e = ap (λ (f : Fed). if is_done f && are_done xs then Taken else Stopped []) e
refuses x xs (t ∷ ts) e = ap (λ (f : Fed). go_on (by_first f xs (behind_token xs t.kind)) (λ ys. run ys ts) (Stopped (t ∷ ts))) e

pub takes : (x : Symbol) (more xs : List Symbol) (t : Token) (ts : List Token) → feed x t.kind ≡ Takes more → run (x ∷ xs) (t ∷ ts) ≡ run (more ++ xs) ts
unfolding run behind_token
takes x more xs t ts e = ap (λ (f : Fed). go_on (by_first f xs (behind_token xs t.kind)) (λ ys. run ys ts) (Stopped (t ∷ ts))) e

-- behind the last token nothing is taken
takes_none : (x : Symbol) (more xs : List Symbol) → feed x kind.End ≡ Takes more → run (x ∷ xs) [] ≡ Stopped []
unfolding run are_done
takes_none x more xs e = ap (λ (f : Fed). if is_done f && are_done xs then Taken else Stopped []) e

-- the same where the token was taken from what was left
pub took : (x : Symbol) (more xs : List Symbol) (old new : List Token) (t : Token) → old ≡ t ∷ new → feed x t.kind ≡ Takes more → run (x ∷ xs) old ≡ run (more ++ xs) new
took x more xs old new t is e = ap (run (x ∷ xs)) is ∙ takes x more xs t new e

-- two symbols that take the next token alike
pub alike : (x y : Symbol) (more other xs ys : List Symbol) (ts : List Token) → more ++ xs ≡ other ++ ys → feed x (kind_at ts) ≡ Takes more → feed y (kind_at ts) ≡ Takes other → run (x ∷ xs) ts ≡ run (y ∷ ys) ts
alike x y more other xs ys [] same e f = takes_none x more xs e ∙ sym (takes_none y other ys f)
alike x y more other xs ys (t ∷ ts) same e f = takes x more xs t ts e ∙ ap (λ (zs : List Symbol). run zs ts) same ∙ sym (takes y other ys t ts f)

-- two symbols that do the same
pub equal : (x y : Symbol) (xs : List Symbol) (ts : List Token) → feed x (kind_at ts) ≡ feed y (kind_at ts) → run (x ∷ xs) ts ≡ run (y ∷ xs) ts
unfolding run are_done behind_token
equal x y xs [] e = ap (λ (f : Fed). if is_done f && are_done xs then Taken else Stopped []) e
equal x y xs (t ∷ ts) e = ap (λ (f : Fed). go_on (by_first f xs (behind_token xs t.kind)) (λ ys. run ys ts) (Stopped (t ∷ ts))) e

-- ---- rules one behind another

pub stops_behind : (xs zs : List Symbol) (old mid new : List Token) (e : ParseError) → run xs old ≡ run zs mid → Stops e zs mid new → Stops e xs old new
stops_behind xs zs old mid new (error.Memory a) same s = tt
stops_behind xs zs old mid new (error.Refused x) same s = same ∙ s

-- a rule that ends as its last part does
pub runs_behind : (A : Type 0) (xs zs : List Symbol) (ys : A → List Symbol) (old mid new : List Token) (r : Result A ParseError) → run xs old ≡ run zs mid → Runs r zs ys mid new → Runs r xs ys old new
runs_behind A xs zs ys old mid new (Ok a) same h = same ∙ h
runs_behind A xs zs ys old mid new (Err e) same h = stops_behind xs zs old mid new e same h

-- a rule of which a part was refused
pub fails : (A : Type 0) (xs zs : List Symbol) (ys : A → List Symbol) (old mid new : List Token) (e : ParseError) (r : Result A ParseError) → IsErrAnd r (λ y. y ≡ e) → run xs old ≡ run zs mid → Stops e zs mid new → Runs r xs ys old new
fails A xs zs ys old mid new e (Ok a) is same s = absurd is
fails A xs zs ys old mid new e (Err y) is same s = subst (λ (z : ParseError). Stops z xs old new) (sym is) (stops_behind xs zs old mid new e same s)

-- a refused rule where the next one stands
pub ends : (xs : List Symbol) (old mid new : List Token) → run xs old ≡ Stopped mid → new ≡ mid → run xs old ≡ Stopped new
ends xs old mid new e same = e ∙ ap Stopped (sym same)

-- ---- what each symbol does

pub one_takes : (j : Kind) (k : Kind) → same_kind k j ≡ true → feed (One j) k ≡ Takes []
unfolding feed
one_takes j k e = ap (λ (b : Bool). if b then Takes [] else Refuses) e

pub one_refuses : (j : Kind) (k : Kind) → same_kind k j ≡ false → feed (One j) k ≡ Refuses
unfolding feed
one_refuses j k e = ap (λ (b : Bool). if b then Takes [] else Refuses) e

pub names_takes : (k : Kind) → same_kind k kind.Name ≡ true → feed Names k ≡ Takes (Names ∷ [])
unfolding feed
names_takes k e = ap (λ (b : Bool). if b then Takes (Names ∷ []) else Skips) e

pub names_skips : (k : Kind) → same_kind k kind.Name ≡ false → feed Names k ≡ Skips
unfolding feed
names_skips k e = ap (λ (b : Bool). if b then Takes (Names ∷ []) else Skips) e

pub marks_takes : (j : Kind) (k : Kind) → same_kind k j ≡ true → feed (Marks j) k ≡ Takes (One kind.Name ∷ Marks j ∷ [])
unfolding feed
marks_takes j k e = ap (λ (b : Bool). if b then Takes (One kind.Name ∷ Marks j ∷ []) else Skips) e

pub marks_skips : (j : Kind) (k : Kind) → same_kind k j ≡ false → feed (Marks j) k ≡ Skips
unfolding feed
marks_skips j k e = ap (λ (b : Bool). if b then Takes (One kind.Name ∷ Marks j ∷ []) else Skips) e

pub header_takes : (k : Kind) → same_kind k kind.Colon ≡ true → feed Header k ≡ Takes (One kind.Name ∷ Marks kind.Colon ∷ One kind.Bar ∷ [])
unfolding feed
header_takes k e = ap (λ (b : Bool). if b then Takes (One kind.Name ∷ Marks kind.Colon ∷ One kind.Bar ∷ []) else Skips) e

pub header_skips : (k : Kind) → same_kind k kind.Colon ≡ false → feed Header k ≡ Skips
unfolding feed
header_skips k e = ap (λ (b : Bool). if b then Takes (One kind.Name ∷ Marks kind.Colon ∷ One kind.Bar ∷ []) else Skips) e

pub temporaries_takes : (k : Kind) → same_kind k kind.Bar ≡ true → feed Temporaries k ≡ Takes (Names ∷ One kind.Bar ∷ [])
unfolding feed
temporaries_takes k e = ap (λ (b : Bool). if b then Takes (Names ∷ One kind.Bar ∷ []) else Skips) e

pub temporaries_skips : (k : Kind) → same_kind k kind.Bar ≡ false → feed Temporaries k ≡ Skips
unfolding feed
temporaries_skips k e = ap (λ (b : Bool). if b then Takes (Names ∷ One kind.Bar ∷ []) else Skips) e

pub primitive_takes : (k : Kind) → same_kind k kind.Binary ≡ true → feed Primitive k ≡ Takes (One kind.Keyword ∷ One kind.Integer ∷ One kind.Binary ∷ [])
unfolding feed
primitive_takes k e = ap (λ (b : Bool). if b then Takes (One kind.Keyword ∷ One kind.Integer ∷ One kind.Binary ∷ []) else Skips) e

pub primitive_skips : (k : Kind) → same_kind k kind.Binary ≡ false → feed Primitive k ≡ Skips
unfolding feed
primitive_skips k e = ap (λ (b : Bool). if b then Takes (One kind.Keyword ∷ One kind.Integer ∷ One kind.Binary ∷ []) else Skips) e

pub dot_takes : (k : Kind) → same_kind k kind.Period ≡ true → feed Dot k ≡ Takes []
unfolding feed
dot_takes k e = ap (λ (b : Bool). if b then Takes [] else Skips) e

pub dot_skips : (k : Kind) → same_kind k kind.Period ≡ false → feed Dot k ≡ Skips
unfolding feed
dot_skips k e = ap (λ (b : Bool). if b then Takes [] else Skips) e

pub behind_takes : (d : ℕ) (k : Kind) → same_kind k kind.Period ≡ true → feed (Behind d) k ≡ Takes (Body d ∷ [])
unfolding feed
behind_takes d k e = ap (λ (b : Bool). if b then Takes (Body d ∷ []) else Skips) e

pub behind_skips : (d : ℕ) (k : Kind) → same_kind k kind.Period ≡ false → feed (Behind d) k ≡ Skips
unfolding feed
behind_skips d k e = ap (λ (b : Bool). if b then Takes (Body d ∷ []) else Skips) e

pub selector_is : (k : Kind) (j : Joint) → joint_of k ≡ j → feed Selector k ≡ selector j
unfolding feed
selector_is k j e = ap (selector) e

pub elements_is : (d : ℕ) (k : Kind) (j : Option Item) → item_of k ≡ j → feed (Elements d) k ≡ elements d j
unfolding feed
elements_is d k j e = ap (elements d) e

pub nested_is : (d : ℕ) (k : Kind) (j : Option Opening) → opening_of k ≡ j → feed (Nested d) k ≡ nested d [] j
unfolding feed
nested_is d k j e = ap (nested d []) e

pub first_is : (place : Place) (d : ℕ) (k : Kind) (j : Option Opening) → opening_of k ≡ j → feed (First place d) k ≡ first place d [] j
unfolding feed
first_is place d k j e = ap (first place d []) e

pub after_is : (state : State) (place : Place) (d : ℕ) (k : Kind) (j : Joint) → joint_of k ≡ j → feed (After state place d) k ≡ after state place d j
unfolding feed
after_is state place d k j e = ap (after state place d) e

pub keywords_is : (d : ℕ) (k : Kind) (j : Joint) → joint_of k ≡ j → feed (Keywords d) k ≡ keywords d j
unfolding feed
keywords_is d k j e = ap (keywords d) e

pub message_is : (d : ℕ) (k : Kind) (j : Joint) → joint_of k ≡ j → feed (Message d) k ≡ message d j
unfolding feed
message_is d k j e = ap (message d) e

pub others_is : (d : ℕ) (k : Kind) (j : Joint) → joint_of k ≡ j → feed (Others d) k ≡ others d j
unfolding feed
others_is d k j e = ap (others d) e

-- nothing nests deeper
pub deeper_none : (d : ℕ) (more : List Symbol) → d ≡ 0 → deeper d more ≡ Refuses
deeper_none d more e = ap (λ (b : Bool). if b then Refuses else Takes more) (eq-eqb d 0 e)

pub deeper_some : (d : ℕ) (more : List Symbol) → (d ≡ 0 → ⊥) → deeper d more ≡ Takes more
deeper_some d more e = ap (λ (b : Bool). if b then Refuses else Takes more) (ne_eqb d 0 e)

-- ---- a nested expression

pub nested_none : (d : ℕ) (xs : List Symbol) (ts : List Token) → d ≡ 0 → run (Nested d ∷ xs) ts ≡ Stopped ts
unfolding feed
nested_none d xs ts e = refuses (Nested d) xs ts (ap (λ (b : Bool). if b then Refuses else first Whole (d - 1) [] (opening_of (kind_at ts))) (eq-eqb d 0 e))

pub nested_some : (d : ℕ) (xs : List Symbol) (ts : List Token) → (d ≡ 0 → ⊥) → run (Nested d ∷ xs) ts ≡ run (First Whole (d - 1) ∷ xs) ts
unfolding feed
nested_some d xs ts e = equal (Nested d) (First Whole (d - 1)) xs ts (ap (λ (b : Bool). if b then Refuses else first Whole (d - 1) [] (opening_of (kind_at ts))) (ne_eqb d 0 e))

-- ---- primaries

pub first_none : (place : Place) (d : ℕ) (xs : List Symbol) (ts : List Token) → opening_of (kind_at ts) ≡ None → run (First place d ∷ xs) ts ≡ Stopped ts
first_none place d xs ts e = refuses (First place d) xs ts (first_is place d (kind_at ts) None e)

pub first_deep : (place : Place) (d : ℕ) (xs : List Symbol) (ts : List Token) (o : Opening) → opening_of (kind_at ts) ≡ Some o → (is_group o && d == 0) ≡ true → run (First place d ∷ xs) ts ≡ Stopped ts
first_deep place d xs ts o e deep = refuses (First place d) xs ts (first_is place d (kind_at ts) (Some o) e ∙ ap (λ (b : Bool). if b then Refuses else Takes (inside d o ++ After (begun o) place d ∷ [])) deep)

pub first_some : (place : Place) (d : ℕ) (xs : List Symbol) (old new : List Token) (t : Token) (o : Opening) → old ≡ t ∷ new → opening_of (kind_at old) ≡ Some o → (is_group o && d == 0) ≡ false
    → run (First place d ∷ xs) old ≡ run (inside d o ++ (After (begun o) place d ∷ xs)) new
first_some place d xs old new t o is e deep =
    let read : opening_of t.kind ≡ Some o = ap (λ (ts : List Token). opening_of (kind_at ts)) (sym is) ∙ e in
    took (First place d) (inside d o ++ After (begun o) place d ∷ []) xs old new t is (first_is place d t.kind (Some o) read ∙ ap (λ (b : Bool). if b then Refuses else Takes (inside d o ++ After (begun o) place d ∷ [])) deep)
    ∙ ap (λ (zs : List Symbol). run zs new) (append_assoc (inside d o) (After (begun o) place d ∷ []) xs)

pub begun_names : (o : Opening) → takes_names (begun o) ≡ true
begun_names opening.Name = refl
begun_names _ = refl

-- ---- what goes on with an expression

pub name_takes : (state : State) (place : Place) (d : ℕ) → takes_names state ≡ true → after_name state place d ≡ Takes (After Unary place d ∷ [])
name_takes Named place d e = refl
name_takes Plain place d e = refl
name_takes Unary place d e = refl
name_takes Binary place d e = absurd (true≢false (sym e))
name_takes Sent place d e = absurd (true≢false (sym e))

pub name_unsent : (state : State) → takes_names state ≡ true → is_sent state ≡ false
name_unsent Sent e = sym e
name_unsent _ e = refl

pub operator_takes : (state : State) (place : Place) (d : ℕ) → (place ≡ Operand → ⊥) → is_sent state ≡ false → after_operator state place d ≡ Takes (First Operand d ∷ After Binary place d ∷ [])
operator_takes Named Operand d ne e = absurd (ne refl)
operator_takes Named _ d ne e = refl
operator_takes Plain Operand d ne e = absurd (ne refl)
operator_takes Plain _ d ne e = refl
operator_takes Unary Operand d ne e = absurd (ne refl)
operator_takes Unary _ d ne e = refl
operator_takes Binary Operand d ne e = absurd (ne refl)
operator_takes Binary _ d ne e = refl
operator_takes Sent place d ne e = absurd (true≢false e)

pub keyword_takes : (state : State) (d : ℕ) → is_sent state ≡ false → after_keyword state Whole d ≡ Takes (First Argument d ∷ Keywords d ∷ After Sent Whole d ∷ [])
keyword_takes Sent d e = absurd (true≢false e)
keyword_takes _ d e = refl

pub semicolon_takes : (state : State) (d : ℕ) → is_message state ≡ true → after_semicolon state Whole d ≡ Takes (Message d ∷ Others d ∷ [])
semicolon_takes Named d e = absurd (true≢false (sym e))
semicolon_takes Plain d e = absurd (true≢false (sym e))
semicolon_takes _ d e = refl

operator_ends : (state : State) (d : ℕ) → after_operator state Operand d ≡ Skips
operator_ends Sent d = refl
operator_ends _ d = refl

keyword_operand : (state : State) (d : ℕ) → after_keyword state Operand d ≡ Skips
keyword_operand Sent d = refl
keyword_operand _ d = refl

keyword_argument : (state : State) (d : ℕ) → after_keyword state Argument d ≡ Skips
keyword_argument Sent d = refl
keyword_argument _ d = refl

semicolon_operand : (state : State) (d : ℕ) → after_semicolon state Operand d ≡ Skips
semicolon_operand Named d = refl
semicolon_operand Plain d = refl
semicolon_operand _ d = refl

semicolon_argument : (state : State) (d : ℕ) → after_semicolon state Argument d ≡ Skips
semicolon_argument Named d = refl
semicolon_argument Plain d = refl
semicolon_argument _ d = refl

assign_operand : (state : State) (d : ℕ) → after_assign state Operand d ≡ Skips
assign_operand Named d = refl
assign_operand _ d = refl

assign_argument : (state : State) (d : ℕ) → after_assign state Argument d ≡ Skips
assign_argument Named d = refl
assign_argument _ d = refl

pub assign_other : (state : State) (place : Place) (d : ℕ) → is_named state ≡ false → after_assign state place d ≡ Skips
assign_other Named place d e = absurd (true≢false e)
assign_other _ place d e = refl

operand_skips : (state : State) (d : ℕ) (j : Joint) → (j ≡ joint.Name → ⊥) → after state Operand d j ≡ Skips
operand_skips state d joint.Name ne = absurd (ne refl)
operand_skips state d joint.Operator ne = operator_ends state d
operand_skips state d joint.Keyword ne = keyword_operand state d
operand_skips state d joint.Semicolon ne = semicolon_operand state d
operand_skips state d joint.Assign ne = assign_operand state d
operand_skips state d joint.Nothing ne = refl

-- an operand ends at what is ne unary selector
pub operand_ends : (state : State) (d : ℕ) (xs : List Symbol) (ts : List Token) → (joint_of (kind_at ts) ≡ joint.Name → ⊥) → run (After state Operand d ∷ xs) ts ≡ run xs ts
operand_ends state d xs ts ne = skips (After state Operand d) xs ts (after_is state Operand d (kind_at ts) (joint_of (kind_at ts)) refl ∙ operand_skips state d (joint_of (kind_at ts)) ne)

argument_skips : (state : State) (d : ℕ) (j : Joint) → (j ≡ joint.Name → ⊥) → (j ≡ joint.Operator → ⊥) → after state Argument d j ≡ Skips
argument_skips state d joint.Name ne nor = absurd (ne refl)
argument_skips state d joint.Operator ne nor = absurd (nor refl)
argument_skips state d joint.Keyword ne nor = keyword_argument state d
argument_skips state d joint.Semicolon ne nor = semicolon_argument state d
argument_skips state d joint.Assign ne nor = assign_argument state d
argument_skips state d joint.Nothing ne nor = refl

-- an argument ends at what is neither a unary selector nor an operator
pub argument_ends : (state : State) (d : ℕ) (xs : List Symbol) (ts : List Token) → (joint_of (kind_at ts) ≡ joint.Name → ⊥) → (joint_of (kind_at ts) ≡ joint.Operator → ⊥) → run (After state Argument d ∷ xs) ts ≡ run xs ts
argument_ends state d xs ts ne nor = skips (After state Argument d) xs ts (after_is state Argument d (kind_at ts) (joint_of (kind_at ts)) refl ∙ argument_skips state d (joint_of (kind_at ts)) ne nor)

name_skips : (state : State) (d : ℕ) → takes_names state ≡ false → after_name state Whole d ≡ Skips
name_skips Binary d e = refl
name_skips Sent d e = refl
name_skips _ d e = absurd (true≢false e)

operator_skips : (state : State) (d : ℕ) → is_sent state ≡ true → after_operator state Whole d ≡ Skips
operator_skips Sent d e = refl
operator_skips _ d e = absurd (true≢false (sym e))

keyword_skips : (state : State) (d : ℕ) → is_sent state ≡ true → after_keyword state Whole d ≡ Skips
keyword_skips Sent d e = refl
keyword_skips _ d e = absurd (true≢false (sym e))

semicolon_skips : (state : State) (d : ℕ) → is_message state ≡ false → after_semicolon state Whole d ≡ Skips
semicolon_skips Named d e = refl
semicolon_skips Plain d e = refl
semicolon_skips _ d e = absurd (true≢false e)

whole_skips : (state : State) (d : ℕ) (j : Joint) → EndsCascade state j → (j ≡ joint.Assign → ⊥) → after state Whole d j ≡ Skips
whole_skips state d joint.Name e ne = name_skips state d e
whole_skips state d joint.Operator e ne = operator_skips state d e
whole_skips state d joint.Keyword e ne = keyword_skips state d e
whole_skips state d joint.Semicolon e ne = semicolon_skips state d e
whole_skips state d joint.Assign e ne = absurd (ne refl)
whole_skips state d joint.Nothing e ne = refl

pub whole_ends : (state : State) (d : ℕ) (xs : List Symbol) (ts : List Token) → EndsCascade state (joint_of (kind_at ts)) → (joint_of (kind_at ts) ≡ joint.Assign → ⊥) → run (After state Whole d ∷ xs) ts ≡ run xs ts
whole_ends state d xs ts e ne = skips (After state Whole d) xs ts (after_is state Whole d (kind_at ts) (joint_of (kind_at ts)) refl ∙ whole_skips state d (joint_of (kind_at ts)) e ne)

sent_skips : (d : ℕ) (j : Joint) → (j ≡ joint.Semicolon → ⊥) → after Sent Whole d j ≡ Skips
sent_skips d joint.Semicolon ne = absurd (ne refl)
sent_skips d joint.Name ne = refl
sent_skips d joint.Operator ne = refl
sent_skips d joint.Keyword ne = refl
sent_skips d joint.Assign ne = refl
sent_skips d joint.Nothing ne = refl

pub sent_ends : (d : ℕ) (xs : List Symbol) (ts : List Token) → (joint_of (kind_at ts) ≡ joint.Semicolon → ⊥) → run (After Sent Whole d ∷ xs) ts ≡ run xs ts
sent_ends d xs ts ne = skips (After Sent Whole d) xs ts (after_is Sent Whole d (kind_at ts) (joint_of (kind_at ts)) refl ∙ sent_skips d (joint_of (kind_at ts)) ne)

-- a message so far ends there
pub ends_message : (state : State) (j : Joint) → (j ≡ joint.Name → ⊥) → (j ≡ joint.Operator → ⊥) → (j ≡ joint.Keyword → ⊥) → EndsMessage state j
ends_message state joint.Name n o k = absurd (n refl)
ends_message state joint.Operator n o k = absurd (o refl)
ends_message state joint.Keyword n o k = absurd (k refl)
ends_message state _ n o k = tt

pub ends_sent : (state : State) (j : Joint) → state ≡ Sent → EndsMessage state j
ends_sent state joint.Name e = ap takes_names e
ends_sent state joint.Operator e = ap is_sent e
ends_sent state joint.Keyword e = ap is_sent e
ends_sent state _ e = tt

pub ends_cascade : (state : State) (j : Joint) → EndsMessage state j → cascades j state ≡ false → EndsCascade state j
ends_cascade state joint.Semicolon e ne = ne
ends_cascade state joint.Name e ne = e
ends_cascade state joint.Operator e ne = e
ends_cascade state joint.Keyword e ne = e
ends_cascade state joint.Assign e ne = e
ends_cascade state joint.Nothing e ne = e

pub ends_others : (state : State) (j : Joint) → state ≡ Sent → (j ≡ joint.Semicolon → ⊥) → EndsCascade state j
ends_others state joint.Semicolon e ne = absurd (ne refl)
ends_others state joint.Name e ne = ap takes_names e
ends_others state joint.Operator e ne = ap is_sent e
ends_others state joint.Keyword e ne = ap is_sent e
ends_others state joint.Assign e ne = tt
ends_others state joint.Nothing e ne = tt

pub cascade_at : (state : State) (j : Joint) → cascades j state ≡ true → (j ≡ joint.Semicolon) × (is_message state ≡ true)
cascade_at state joint.Semicolon e = (refl, e)
cascade_at state _ e = absurd (true≢false (sym e))

-- ---- statements

body_is : (d : ℕ) (k : Kind) (o : Opening) → opening_of k ≡ Some o → feed (Body d) k ≡ nested d (Behind d ∷ []) (Some o)
unfolding feed
body_is d k o e = ap (body d (same_kind k kind.Return)) e

-- by the two tests that stand in its way
body_by : (d : ℕ) (xs : List Symbol) (ts : List Token) (o : Opening) (none deep : Bool)
    → feed (Body d) (kind_at ts) ≡ (if none then Refuses else (if deep then Refuses else Takes (inside (d - 1) o ++ After (begun o) Whole (d - 1) ∷ Behind d ∷ [])))
    → feed (Nested d) (kind_at ts) ≡ (if none then Refuses else (if deep then Refuses else Takes (inside (d - 1) o ++ After (begun o) Whole (d - 1) ∷ [])))
    → run (Body d ∷ xs) ts ≡ run (Nested d ∷ Behind d ∷ xs) ts
body_by d xs ts o true deep e f = refuses (Body d) xs ts e ∙ sym (refuses (Nested d) (Behind d ∷ xs) ts f)
body_by d xs ts o false true e f = refuses (Body d) xs ts e ∙ sym (refuses (Nested d) (Behind d ∷ xs) ts f)
body_by d xs ts o false false e f =
    alike (Body d) (Nested d) (inside (d - 1) o ++ After (begun o) Whole (d - 1) ∷ Behind d ∷ []) (inside (d - 1) o ++ After (begun o) Whole (d - 1) ∷ []) xs (Behind d ∷ xs) ts
    (append_assoc (inside (d - 1) o) (After (begun o) Whole (d - 1) ∷ Behind d ∷ []) xs ∙ sym (append_assoc (inside (d - 1) o) (After (begun o) Whole (d - 1) ∷ []) (Behind d ∷ xs))) e f

pub body_first : (d : ℕ) (xs : List Symbol) (ts : List Token) (o : Opening) → opening_of (kind_at ts) ≡ Some o → run (Body d ∷ xs) ts ≡ run (Nested d ∷ Behind d ∷ xs) ts
body_first d xs ts o e = body_by d xs ts o (d == 0) (is_group o && d - 1 == 0) (body_is d (kind_at ts) o e) (nested_is d (kind_at ts) (Some o) e)

body_else : (d : ℕ) (k : Kind) (b : Bool) → opening_of k ≡ None → same_kind k kind.Return ≡ b → feed (Body d) k ≡ (if b then deeper d (Nested d ∷ Dot ∷ []) else Skips)
unfolding feed
body_else d k b e f = ap (body d (same_kind k kind.Return)) e ∙ ap (λ (c : Bool). if c then deeper d (Nested d ∷ Dot ∷ []) else Skips) f

pub body_ends : (d : ℕ) (xs : List Symbol) (ts : List Token) → opening_of (kind_at ts) ≡ None → same_kind (kind_at ts) kind.Return ≡ false → run (Body d ∷ xs) ts ≡ run xs ts
body_ends d xs ts e f = skips (Body d) xs ts (body_else d (kind_at ts) false e f)

pub body_deep : (d : ℕ) (xs : List Symbol) (ts : List Token) → opening_of (kind_at ts) ≡ None → same_kind (kind_at ts) kind.Return ≡ true → d ≡ 0 → run (Body d ∷ xs) ts ≡ Stopped ts
body_deep d xs ts e f deep = refuses (Body d) xs ts (body_else d (kind_at ts) true e f ∙ deeper_none d (Nested d ∷ Dot ∷ []) deep)

pub body_returns : (d : ℕ) (xs : List Symbol) (old new : List Token) (t : Token) → old ≡ t ∷ new → opening_of (kind_at old) ≡ None → same_kind (kind_at old) kind.Return ≡ true → (d ≡ 0 → ⊥) → run (Body d ∷ xs) old ≡ run (Nested d ∷ Dot ∷ xs) new
body_returns d xs old new t is e f deep =
    let read : opening_of t.kind ≡ None = ap (λ (ts : List Token). opening_of (kind_at ts)) (sym is) ∙ e in
    let sign : same_kind t.kind kind.Return ≡ true = ap (λ (ts : List Token). same_kind (kind_at ts) kind.Return) (sym is) ∙ f in
    took (Body d) (Nested d ∷ Dot ∷ []) xs old new t is (body_else d t.kind true read sign ∙ deeper_some d (Nested d ∷ Dot ∷ []) deep)

-- ---- the joint of a token that was taken

pub joint_taken : (old new : List Token) (t : Token) (j : Joint) → old ≡ t ∷ new → joint_of (kind_at old) ≡ j → joint_of t.kind ≡ j
joint_taken old new t j is e = ap (λ (ts : List Token). joint_of (kind_at ts)) (sym is) ∙ e

-- a token that goes on with an expression is there
pub some_left : (ts : List Token) (j : Joint) → joint_of (kind_at ts) ≡ j → (j ≡ joint.Nothing → ⊥) → 0 < length ts
unfolding joint_of
some_left [] j e ne = absurd (ne (sym e))
some_left (t ∷ ts) j e ne = omega arith

pub opened_left : (ts : List Token) (o : Opening) → opening_of (kind_at ts) ≡ Some o → 0 < length ts
unfolding opening_of
opened_left [] o e = absurd (cc)
opened_left (t ∷ ts) o e = omega arith

pub item_left : (ts : List Token) (i : Item) → item_of (kind_at ts) ≡ Some i → 0 < length ts
unfolding item_of
item_left [] i e = absurd (cc)
item_left (t ∷ ts) i e = omega arith

pub kind_left : (ts : List Token) (k : Kind) → same_kind (kind_at ts) k ≡ true → same_kind kind.End k ≡ false → 0 < length ts
kind_left [] k e ne = absurd (true≢false (sym e ∙ ne))
kind_left (t ∷ ts) k e ne = omega arith

pub keyword_kind : (k : Kind) → joint_of k ≡ joint.Keyword → same_kind k kind.Keyword ≡ true
unfolding joint_of
keyword_kind kind.Keyword e = refl
keyword_kind kind.Name e = absurd (cc)
keyword_kind kind.Binary e = absurd (cc)
keyword_kind kind.Minus e = absurd (cc)
keyword_kind kind.Bar e = absurd (cc)
keyword_kind kind.Semicolon e = absurd (cc)
keyword_kind kind.Assign e = absurd (cc)
keyword_kind _ e = absurd (cc)

-- ---- out of memory, and where nothing was taken

pub memory : (A : Type 0) (xs : List Symbol) (ys : A → List Symbol) (old new : List Token) (a : AllocError) (r : Result A ParseError) → IsErrAnd r (λ y. y ≡ error.Memory a) → Runs r xs ys old new
memory A xs ys old new a (Ok x) is = absurd is
memory A xs ys old new a (Err e) is = subst (λ (z : ParseError). Stops z xs old new) (sym is) tt

pub left : (xs : List Symbol) (mid new : List Token) → new ≡ mid → run xs mid ≡ run xs new
left xs mid new e = ap (run xs) (sym e)

-- how the next token goes on where none was taken
pub same_left : (old new : List Token) (j : Joint) → new ≡ old → (joint_of (kind_at old) ≡ j → ⊥) → joint_of (kind_at new) ≡ j → ⊥
same_left old new j e ne is = ne (ap (λ (ts : List Token). joint_of (kind_at ts)) (sym e) ∙ is)

other_joint : (i j : Joint) → same_joint i j ≡ false → i ≡ j → ⊥
other_joint i j e is = same_false joints.the_type i j e is

pub not_joint : (old new : List Token) (j : Joint) → new ≡ old → same_joint (joint_of (kind_at old)) j ≡ false → joint_of (kind_at new) ≡ j → ⊥
not_joint old new j e ne = same_left old new j e (other_joint (joint_of (kind_at old)) j ne)

pub keywords_skip : (d : ℕ) (j : Joint) → (j ≡ joint.Keyword → ⊥) → keywords d j ≡ Skips
keywords_skip d joint.Keyword ne = absurd (ne refl)
keywords_skip d _ ne = refl

pub keywords_end : (d : ℕ) (xs : List Symbol) (old new : List Token) → new ≡ old → same_joint (joint_of (kind_at old)) joint.Keyword ≡ false → run (Keywords d ∷ xs) old ≡ run xs new
keywords_end d xs old new e ne =
    skips (Keywords d) xs old (keywords_is d (kind_at old) (joint_of (kind_at old)) refl ∙ keywords_skip d (joint_of (kind_at old)) (other_joint (joint_of (kind_at old)) joint.Keyword ne)) ∙ left xs old new e

pub others_skip : (d : ℕ) (j : Joint) → (j ≡ joint.Semicolon → ⊥) → others d j ≡ Skips
others_skip d joint.Semicolon ne = absurd (ne refl)
others_skip d _ ne = refl

pub others_end : (d : ℕ) (xs : List Symbol) (old new : List Token) → new ≡ old → same_joint (joint_of (kind_at old)) joint.Semicolon ≡ false → run (Others d ∷ xs) old ≡ run xs new
others_end d xs old new e ne =
    skips (Others d) xs old (others_is d (kind_at old) (joint_of (kind_at old)) refl ∙ others_skip d (joint_of (kind_at old)) (other_joint (joint_of (kind_at old)) joint.Semicolon ne)) ∙ left xs old new e

place_number : Place → ℕ
place_number Operand = 0
place_number _ = 1

pub argument_other : Argument ≡ Operand → ⊥
unfolding place_number
argument_other e = let n : 1 ≡ 0 = ap place_number e in omega (arith, n)

pub whole_other : Whole ≡ Operand → ⊥
unfolding place_number
whole_other e = let n : 1 ≡ 0 = ap place_number e in omega (arith, n)

-- a primary with what goes on with it, as an operand and as an argument
pub operand_by : (d : ℕ) (xs : List Symbol) (x : Symbol) (old new : List Token) (r : Result Expr ParseError) → Runs r (x ∷ xs) (λ e. After (state_of e) Operand d ∷ xs) old new
    → IfOk r (λ e. joint_of (kind_at new) ≡ joint.Name → ⊥) → Runs r (x ∷ xs) (λ e. xs) old new
operand_by d xs x old new (Ok e) h ne = h ∙ operand_ends (state_of e) d xs new ne
operand_by d xs x old new (Err e) h ne = h

pub argument_by : (d : ℕ) (xs : List Symbol) (x : Symbol) (old new : List Token) (r : Result Expr ParseError) → Runs r (x ∷ xs) (λ e. After (state_of e) Argument d ∷ xs) old new
    → IfOk r (λ e. (joint_of (kind_at new) ≡ joint.Name → ⊥) × (joint_of (kind_at new) ≡ joint.Operator → ⊥)) → Runs r (x ∷ xs) (λ e. xs) old new
argument_by d xs x old new (Ok e) h ne = h ∙ argument_ends (state_of e) d xs new ne.0 ne.1
argument_by d xs x old new (Err e) h ne = h

message_none : (d : ℕ) (j : Joint) → (j ≡ joint.Name → ⊥) → (j ≡ joint.Operator → ⊥) → (j ≡ joint.Keyword → ⊥) → message d j ≡ Refuses
message_none d joint.Name n o k = absurd (n refl)
message_none d joint.Operator n o k = absurd (o refl)
message_none d joint.Keyword n o k = absurd (k refl)
message_none d _ n o k = refl

pub message_refuses : (d : ℕ) (j : Joint) → (j ≡ joint.Name → ⊥) → (j ≡ joint.Operator → ⊥) → (j ≡ joint.Keyword → ⊥) → message d j ≡ Refuses
message_refuses d j n o k = message_none d j n o k

pub selector_refuses : (j : Joint) → (j ≡ joint.Name → ⊥) → (j ≡ joint.Operator → ⊥) → (j ≡ joint.Keyword → ⊥) → selector j ≡ Refuses
selector_refuses joint.Name n o k = absurd (n refl)
selector_refuses joint.Operator n o k = absurd (o refl)
selector_refuses joint.Keyword n o k = absurd (k refl)
selector_refuses _ n o k = refl

-- ---- one way to what another symbol does

pub to_keywords : (state : State) (d : ℕ) (xs : List Symbol) (ts : List Token) → is_sent state ≡ false → joint_of (kind_at ts) ≡ joint.Keyword → run (After state Whole d ∷ xs) ts ≡ run (Keywords d ∷ After Sent Whole d ∷ xs) ts
to_keywords state d xs ts unsent k =
    alike (After state Whole d) (Keywords d) (First Argument d ∷ Keywords d ∷ After Sent Whole d ∷ []) (First Argument d ∷ Keywords d ∷ []) xs (After Sent Whole d ∷ xs) ts refl
    (after_is state Whole d (kind_at ts) joint.Keyword k ∙ keyword_takes state d unsent) (keywords_is d (kind_at ts) joint.Keyword k)

pub to_others : (state : State) (d : ℕ) (xs : List Symbol) (ts : List Token) → is_message state ≡ true → joint_of (kind_at ts) ≡ joint.Semicolon → run (After state Whole d ∷ xs) ts ≡ run (Others d ∷ xs) ts
to_others state d xs ts is k =
    alike (After state Whole d) (Others d) (Message d ∷ Others d ∷ []) (Message d ∷ Others d ∷ []) xs xs ts refl
    (after_is state Whole d (kind_at ts) joint.Semicolon k ∙ semicolon_takes state d is) (others_is d (kind_at ts) joint.Semicolon k)

pub to_parts : (d : ℕ) (xs : List Symbol) (ts : List Token) → joint_of (kind_at ts) ≡ joint.Keyword → run (Message d ∷ xs) ts ≡ run (Keywords d ∷ xs) ts
to_parts d xs ts k =
    alike (Message d) (Keywords d) (First Argument d ∷ Keywords d ∷ []) (First Argument d ∷ Keywords d ∷ []) xs xs ts refl (message_is d (kind_at ts) joint.Keyword k) (keywords_is d (kind_at ts) joint.Keyword k)

pub to_marks : (xs : List Symbol) (ts : List Token) → same_kind (kind_at ts) kind.Colon ≡ true → run (Header ∷ xs) ts ≡ run (Marks kind.Colon ∷ One kind.Bar ∷ xs) ts
to_marks xs ts is =
    alike Header (Marks kind.Colon) (One kind.Name ∷ Marks kind.Colon ∷ One kind.Bar ∷ []) (One kind.Name ∷ Marks kind.Colon ∷ []) xs (One kind.Bar ∷ xs) ts refl (header_takes (kind_at ts) is) (marks_takes kind.Colon (kind_at ts) is)

pub to_pairs : (xs : List Symbol) (ts : List Token) → joint_of (kind_at ts) ≡ joint.Keyword → run (Selector ∷ xs) ts ≡ run (Marks kind.Keyword ∷ xs) ts
to_pairs xs ts is =
    alike Selector (Marks kind.Keyword) (One kind.Name ∷ Marks kind.Keyword ∷ []) (One kind.Name ∷ Marks kind.Keyword ∷ []) xs xs ts refl (selector_is (kind_at ts) joint.Keyword is) (marks_takes kind.Keyword (kind_at ts) (keyword_kind (kind_at ts) is))

pub return_real : same_kind kind.End kind.Return ≡ false
return_real = refl

-- a primary, behind its first token
pub begun_runs : (place : Place) (d : ℕ) (xs : List Symbol) (old mid new : List Token) (t : Token) (o : Opening) → old ≡ t ∷ mid → opening_of (kind_at old) ≡ Some o → (is_group o && d == 0) ≡ false
    → (r : Result Expr ParseError) → IfOk r (λ e. state_of e ≡ begun o) → Runs r (inside d o ++ (After (begun o) place d ∷ xs)) (λ e. After (begun o) place d ∷ xs) mid new
    → Runs r (First place d ∷ xs) (λ e. After (state_of e) place d ∷ xs) old new
begun_runs place d xs old mid new t o is opens deep (Ok e) s h = first_some place d xs old mid t o is opens deep ∙ h ∙ ap (λ (z : State). run (After z place d ∷ xs) new) (sym s)
begun_runs place d xs old mid new t o is opens deep (Err e) s h = stops_behind (First place d ∷ xs) (inside d o ++ (After (begun o) place d ∷ xs)) old mid new e (first_some place d xs old mid t o is opens deep) h

pub names_by : (o : Opening) (r : Result Expr ParseError) → IfOk r (λ e. state_of e ≡ begun o) → IfOk r (λ e. takes_names (state_of e) ≡ true)
names_by o (Ok e) s = ap takes_names s ∙ begun_names o
names_by o (Err e) s = tt

pub item_taken : (old new : List Token) (t : Token) (i : Option Item) → old ≡ t ∷ new → item_of (kind_at old) ≡ i → item_of t.kind ≡ i
item_taken old new t i is e = ap (λ (ts : List Token). item_of (kind_at ts)) (sym is) ∙ e

pub shorter : (old mid new : List Token) (t : Token) → mid ≡ t ∷ new → length mid ≤ length old → length new ≤ length old
shorter old mid new t is e = let same : length mid ≡ suc (length new) = ap length is in omega (arith, same, e)

pub shorter_by : (old m1 m2 m3 new : List Token) (t : Token) → m1 ≡ t ∷ m2 → length m3 ≤ length m2 → length new ≤ length m3 → length m1 ≤ length old → length new ≤ length old
shorter_by old m1 m2 m3 new t is e f g = let same : length m1 ≡ suc (length m2) = ap length is in omega (arith, same, e, f, g)

pub same_state : (s t : State) (place : Place) (d : ℕ) (xs : List Symbol) (ts : List Token) → s ≡ t → run (After t place d ∷ xs) ts ≡ run (After s place d ∷ xs) ts
same_state s t place d xs ts e = ap (λ (z : State). run (After z place d ∷ xs) ts) (sym e)

pub cascade_by : (j k : Joint) (s : State) (r b : Bool) → j ≡ k → r ≡ cascades j s → r ≡ b → cascades k s ≡ b
cascade_by j k s r b same is e = ap (λ (i : Joint). cascades i s) (sym same) ∙ sym is ∙ e
