-- Ranges on an axis.
use Rattle.std.proofs.Common.{◌≡◌, ℕ, ℤ, pos, ◌+ℤ◌, ◌-ℤ◌, ◌≤ℤ◌, ◌<ℤ◌, ◌≤◌, ◌+◌, ◌-◌, refl, sym, ap, ◌∙◌, arith, Bool, true, false, ◌&&◌, Option, Some, None, int_le, int_lt}
use Rattle.std.proofs.lemmas.Int.{ints, by_lt_z}
use Rattle.bit_rows.specs.Rows.{within}
use Rattle.bitblt.specs.declared.clip.Range.{Range}
use Rattle.bitblt.specs.declared.clip.Span.{Span}
use Rattle.blue_model.specs.BitBlt.{spans, has_source_place, is_changed_place}
use Rattle.bitblt.specs.Clip.{covers, IsClipped, IsRange, IsSpanOf}

pub both-same : (a a' b b' : Bool) → a ≡ a' → b ≡ b' → (a && b) ≡ (a' && b')
both-same a a' b b' e f = rw (e, f) refl

le-yes : (a b : ℤ) → a ≤ℤ b → int_le a b ≡ true
le-yes a b h = grind (arith, ints)

le-no : (a b : ℤ) → b <ℤ a → int_le a b ≡ false
le-no a b h = grind (arith, ints)

lt-yes : (a b : ℤ) → a <ℤ b → int_lt a b ≡ true
lt-yes a b h = grind (arith, ints)

lt-no : (a b : ℤ) → b ≤ℤ a → int_lt a b ≡ false
lt-no a b h = grind (arith, ints)

same-le : (a b c d : ℤ) → (a ≤ℤ b → c ≤ℤ d) → (b <ℤ a → d <ℤ c) → int_le a b ≡ int_le c d
same-le a b c d p q = by_lt_z b a (λ h. le-no a b h ∙ sym (le-no c d (q h))) (λ h. le-yes a b h ∙ sym (le-yes c d (p h)))

same-lt : (a b c d : ℤ) → (a <ℤ b → c <ℤ d) → (b ≤ℤ a → d ≤ℤ c) → int_lt a b ≡ int_lt c d
same-lt a b c d p q = by_lt_z a b (λ h. lt-yes a b h ∙ sym (lt-yes c d (p h))) (λ h. lt-no a b h ∙ sym (lt-no c d (q h)))

pub source-covers : (r : Range) (at source_at : ℤ) (n x : ℕ) → r.low ≡ at -ℤ source_at → r.high ≡ at -ℤ source_at +ℤ pos n
    → covers r x ≡ spans (pos 0) (pos n) (pos x -ℤ at +ℤ source_at)
source-covers r at source_at n x low high =
    let place = pos x -ℤ at +ℤ source_at in
    both-same (int_le r.low (pos x)) (int_le (pos 0) place) (int_lt (pos x) r.high) (int_lt place (pos 0 +ℤ pos n))
    (same-le r.low (pos x) (pos 0) place (λ h. omega (arith, ints)) (λ h. omega (arith, ints)))
    (same-lt (pos x) r.high place (pos 0 +ℤ pos n) (λ h. omega (arith, ints)) (λ h. omega (arith, ints)))

pub range-places : (r : Range) (low high x : ℕ) → pos low ≡ r.low → pos high ≡ r.high → covers r x ≡ within low high x
range-places r low high x e f =
    ap (λ z. int_le z (pos x) && int_lt (pos x) r.high) (sym e) ∙ ap (λ z. int_le (pos low) (pos x) && int_lt (pos x) z) (sym f)

pub no-place : (r : Range) (x : ℕ) → r.high ≤ℤ r.low → covers r x ≡ false
no-place r x h =
    by_lt_z (pos x) r.low
    (λ below. ap (λ b. b && int_lt (pos x) r.high) (le-no r.low (pos x) below))
    (λ from.
    ap (λ b. b && int_lt (pos x) r.high) (le-yes r.low (pos x) from)
    ∙ lt-no (pos x) r.high (omega (arith, ints)))

-- a range is what clipping answers, if its places are those changed
pub clipped : (at source_at : ℤ) (form : ℕ) (source : Option ℕ) (changed : ℕ → Bool) (r : Range) (start : ℤ) (o : Option Span)
    → r.high ≤ℤ pos form → ((x : ℕ) → changed x ≡ covers r x)
    → ((n : ℕ) → source ≡ Some n → (start ≡ at -ℤ source_at) × (r.high ≤ℤ (start +ℤ pos n)))
    → IsSpanOf r start o → IsClipped at source_at form source changed o
clipped at source_at form source changed r start None high same from is = λ x. same x ∙ is x
clipped at source_at form source changed r start (Some s) high same from is = record {
  some = is.some;
  within_form = below form high s.high is.high;
  places = λ x. same x ∙ is.places x;
  start = λ n e. begin n s (from n e).0 is;
  within_source = λ n e. end n s (from n e).1 is;
}
  where
    below : (form : ℕ) → r.high ≤ℤ pos form → (h : ℕ) → pos h ≡ r.high → h ≤ form
    below form l h e = omega (arith, ints)

    begin : (n : ℕ) (s : Span) → start ≡ at -ℤ source_at → IsRange r start s → pos s.source ≡ pos s.low -ℤ at +ℤ source_at
    begin n s e is = let low = is.low in let from = is.source in omega (arith, ints)

    end : (n : ℕ) (s : Span) → r.high ≤ℤ (start +ℤ pos n) → IsRange r start s → s.source + (s.high - s.low) ≤ n
    end n s l is = let low = is.low in let high = is.high in let from = is.source in let some = is.some in omega (arith, ints)

pub and-assoc : (a b c : Bool) → ((a && b) && c) ≡ (a && (b && c))
and-assoc true b c = refl
and-assoc false b c = refl

and-true : (b : Bool) → (b && true) ≡ b
and-true true = refl
and-true false = refl

-- the places changed, without a source and with one
pub changed-none : (at extent clip_at clip_extent : ℤ) (form : ℕ) (source_at : ℤ) (source : Option ℕ) (x : ℕ) → source ≡ None
    → is_changed_place at extent clip_at clip_extent form source_at source x ≡ (spans at extent (pos x) && (spans clip_at clip_extent (pos x) && spans (pos 0) (pos form) (pos x)))
changed-none at extent clip_at clip_extent form source_at source x e =
    ap (λ (o : Option ℕ). spans at extent (pos x) && (spans clip_at clip_extent (pos x) && (spans (pos 0) (pos form) (pos x) && has_source_place at source_at o (pos x)))) e
    ∙ ap (λ b. spans at extent (pos x) && (spans clip_at clip_extent (pos x) && b)) (and-true (spans (pos 0) (pos form) (pos x)))

four : (a b c d : Bool) → (a && (b && (c && d))) ≡ ((a && (b && c)) && d)
four true true c d = refl
four true false c d = refl
four false b c d = refl

pub changed-some : (at extent clip_at clip_extent : ℤ) (form : ℕ) (source_at : ℤ) (source : Option ℕ) (n x : ℕ) (p q r : Range) → source ≡ Some n
    → covers p x ≡ (spans at extent (pos x) && (spans clip_at clip_extent (pos x) && spans (pos 0) (pos form) (pos x)))
    → covers q x ≡ spans (pos 0) (pos n) (pos x -ℤ at +ℤ source_at)
    → covers r x ≡ (covers p x && covers q x)
    → is_changed_place at extent clip_at clip_extent form source_at source x ≡ covers r x
changed-some at extent clip_at clip_extent form source_at source n x p q r e ep eq er =
    let a = spans at extent (pos x) in
    let b = spans clip_at clip_extent (pos x) in
    let c = spans (pos 0) (pos form) (pos x) in
    let d = spans (pos 0) (pos n) (pos x -ℤ at +ℤ source_at) in
    ap (λ (o : Option ℕ). a && (b && (c && has_source_place at source_at o (pos x)))) e
    ∙ four a b c d
    ∙ sym (er ∙ both-same (covers p x) (a && (b && c)) (covers q x) d ep eq)
