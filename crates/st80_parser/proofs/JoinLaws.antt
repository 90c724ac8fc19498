-- What was read in two or more steps: the tokens of the parts are those of the whole.
use Rattle.std.proofs.Common.{◌≡◌, List, [], ◌∷◌, ◌++◌, Result, Ok, Err, IfOk, refl, sym, ap, ◌∙◌, append_assoc, append-nil}
use Rattle.st80_parser.specs.declared.error.ParseError.{ParseError}
use Rattle.st80_syntax.specs.declared.token.Token.{Token}

-- one part, and then another one
pub join : {old mid : List Token} (xs ys new : List Token) → old ≡ xs ++ mid → mid ≡ ys ++ new → old ≡ (xs ++ ys) ++ new
join xs ys new e f = e ∙ ap (λ (zs : List Token). xs ++ zs) f ∙ sym (append_assoc xs ys new)

-- the same where the whole is made of them
pub joined : {old mid whole : List Token} (xs ys new : List Token) → whole ≡ xs ++ ys → old ≡ xs ++ mid → mid ≡ ys ++ new → old ≡ whole ++ new
joined xs ys new made e f = join xs ys new e f ∙ ap (λ (zs : List Token). zs ++ new) (sym made)

-- a part, a token and a part
pub around : {old m1 m2 whole : List Token} (xs ys new : List Token) (t : Token) → whole ≡ xs ++ t ∷ ys → old ≡ xs ++ m1 → m1 ≡ t ∷ m2 → m2 ≡ ys ++ new → old ≡ whole ++ new
around xs ys new t made e f g = joined xs (t ∷ ys) new made e (f ∙ ap (λ (zs : List Token). t ∷ zs) g)

-- a token, a part and a token
pub enclosed : {old m1 m2 new whole : List Token} (t u : Token) (xs : List Token) → whole ≡ t ∷ (xs ++ u ∷ []) → old ≡ t ∷ m1 → m1 ≡ xs ++ m2 → m2 ≡ u ∷ new → old ≡ whole ++ new
enclosed {new = new} t u xs made e f g = joined (t ∷ []) (xs ++ u ∷ []) new made e (join xs (u ∷ []) new f g)

-- a part, a part and a token
pub closed : {old m1 m2 new whole : List Token} (xs ys : List Token) (u : Token) → whole ≡ xs ++ (ys ++ u ∷ []) → old ≡ xs ++ m1 → m1 ≡ ys ++ m2 → m2 ≡ u ∷ new → old ≡ whole ++ new
closed {new = new} xs ys u made e f g = joined xs (ys ++ u ∷ []) new made e (join ys (u ∷ []) new f g)

-- a part, and an array or the like
pub nested : {old m1 m2 m3 new whole : List Token} (xs ys : List Token) (t u : Token) → whole ≡ xs ++ t ∷ (ys ++ u ∷ []) → old ≡ xs ++ m1 → m1 ≡ t ∷ m2 → m2 ≡ ys ++ m3 → m3 ≡ u ∷ new → old ≡ whole ++ new
nested {new = new} xs ys t u made e f g h = joined xs (t ∷ (ys ++ u ∷ [])) new made e (f ∙ ap (λ (zs : List Token). t ∷ zs) (join ys (u ∷ []) new g h))

-- a block
pub blocked : {old m1 m2 m3 new whole : List Token} (t u : Token) (xs ys : List Token) → whole ≡ t ∷ (xs ++ (ys ++ u ∷ []))
    → old ≡ t ∷ m1 → m1 ≡ xs ++ m2 → m2 ≡ ys ++ m3 → m3 ≡ u ∷ new → old ≡ whole ++ new
blocked {new = new} t u xs ys made e f g h = joined (t ∷ []) (xs ++ (ys ++ u ∷ [])) new made e (join xs (ys ++ u ∷ []) new f (join ys (u ∷ []) new g h))

-- a part that ends the whole
pub ended : {old new : List Token} (xs : List Token) → old ≡ xs ++ new → new ≡ [] → old ≡ xs
ended xs e f = e ∙ ap (λ (zs : List Token). xs ++ zs) f ∙ append-nil xs

-- a token and a part
pub headed : {old mid whole : List Token} (t : Token) (xs new : List Token) → whole ≡ t ∷ xs → old ≡ t ∷ mid → mid ≡ xs ++ new → old ≡ whole ++ new
headed t xs new made e f = joined (t ∷ []) xs new made e f

-- two tokens and a part
pub assigned : {old m1 m2 whole : List Token} (t u : Token) (xs new : List Token) → whole ≡ t ∷ u ∷ xs → old ≡ t ∷ m1 → m1 ≡ u ∷ m2 → m2 ≡ xs ++ new → old ≡ whole ++ new
assigned t u xs new made e f g = joined (t ∷ u ∷ []) xs new made (e ∙ ap (λ (zs : List Token). t ∷ zs) f) g

-- a token, a part and a token, spelled out
pub between : {old m1 m2 new : List Token} (t u : Token) (xs : List Token) → old ≡ t ∷ m1 → m1 ≡ xs ++ m2 → m2 ≡ u ∷ new → old ≡ t ∷ ((xs ++ u ∷ []) ++ new)
between {new = new} t u xs e f g = e ∙ ap (λ (zs : List Token). t ∷ zs) (join xs (u ∷ []) new f g)

-- what stands behind a part and a token is part of what they begin
pub behind_mark : {old whole : List Token} (xs ys new : List Token) (t : Token) → whole ≡ xs ++ t ∷ ys → old ≡ ys ++ new → xs ++ t ∷ old ≡ whole ++ new
behind_mark {old = old} xs ys new t made e = joined {mid = t ∷ old} xs (t ∷ ys) new made refl (ap (λ (zs : List Token). t ∷ zs) e)

pub behind_two : {old mid whole : List Token} (xs ys new : List Token) (t u : Token) → whole ≡ xs ++ t ∷ u ∷ ys → old ≡ u ∷ mid → mid ≡ ys ++ new → xs ++ t ∷ old ≡ whole ++ new
behind_two xs ys new t u made e f = behind_mark xs (u ∷ ys) new t made (e ∙ ap (λ (zs : List Token). u ∷ zs) f)

-- a token was taken, and what comes of it is known
pub then_by : {old mid m2 all : List Token} (xs : List Token) (t : Token) → old ≡ xs ++ mid → mid ≡ t ∷ m2 → xs ++ t ∷ m2 ≡ all → old ≡ all
then_by xs t e f g = e ∙ ap (λ (zs : List Token). xs ++ zs) f ∙ g

-- a part, and one that is another's, behind which nothing was taken
pub stopped : {old mid m2 new : List Token} (xs ys zs : List Token) → zs ≡ ys → old ≡ xs ++ mid → mid ≡ ys ++ m2 → new ≡ m2 → old ≡ (xs ++ zs) ++ new
stopped {new = new} xs ys zs made e f same = joined xs ys new (ap (λ (z : List Token). xs ++ z) made) e (f ∙ ap (λ (z : List Token). ys ++ z) (sym same))

-- the last part, behind which nothing was taken
pub left_there : {old mid new : List Token} (xs : List Token) → new ≡ mid → old ≡ xs ++ mid → old ≡ xs ++ new
left_there xs same e = e ∙ ap (λ (zs : List Token). xs ++ zs) (sym same)

-- four parts, of which the first was there
pub four : {old m1 m2 : List Token} (ws xs ys zs new : List Token) → old ≡ xs ++ m1 → m1 ≡ ys ++ m2 → m2 ≡ zs ++ new → ws ++ old ≡ (ws ++ (xs ++ (ys ++ zs))) ++ new
four {old = old} ws xs ys zs new e f g = join {mid = old} ws (xs ++ (ys ++ zs)) new refl (join xs (ys ++ zs) new e (join ys zs new f g))

-- what was read where the same tokens stood
pub replaced : (A : Type 0) (f : A → List Token) (old other new : List Token) (r : Result A ParseError) → old ≡ other → IfOk r (λ a. other ≡ f a ++ new) → IfOk r (λ a. old ≡ f a ++ new)
replaced A f old other new (Ok a) same h = same ∙ h
replaced A f old other new (Err e) same h = tt
