-- Which bodies go in a round, and when it stops.
use Rattle.std.proofs.Common.{suc, ◌≡◌, ◌≢◌, ◌⊎◌, inl, inr, ℕ, ◌+◌, ◌≤◌, ◌<◌, true, false, [], ◌∷◌, length, refl, sym, ap, arith, Some, ⊎_elim}
use Rattle.std.proofs.lemmas.Bool.{cases_eq}
use Rattle.std.proofs.lemmas.Grind.{common_steps}
use Rattle.core_view.specs.Core.{Core}
use Rattle.core_view.specs.Purge.{IsPurged, IsSameBody}
use Rattle.core_view.specs.Room.{is_among}
use Rattle.core_view.proofs.Purge.{body-stays, body-then}
use Rattle.leaf_lambda.specs.declared.parts.Parts.{Parts}
use Rattle.purger.specs.Purge.{HasRoom, KeepsBodies}
use Rattle.purger.specs.Rounds.{KeepsAllBut, LosesFew}

pub kept-all : (s : ℕ) (c d : Core) → KeepsBodies c d → KeepsAllBut s c d
kept-all s c d keeps t p at = inr (keeps t p at)

-- what stays, whichever three are pinned but s
pub purged-all : (s : ℕ) (c d : Core) → ((a b k : ℕ) → is_among a b k s ≡ false → IsPurged a b k c d) → KeepsAllBut s c d
purged-all s c d purged t p at = ⊎_elim (λ (e : t ≡ s). inl e) (λ (away : t ≢ s). inr ((purged t t t (other away)).pinned t p (self t) at)) (cases_eq t s)
  where
    self : (t : ℕ) → is_among t t t t ≡ true
    self t = grind (arith, common_steps)

    other : t ≢ s → is_among t t t s ≡ false
    other away = grind (arith, common_steps)

pub few-none : (c : Core) → LosesFew 0 c c
few-none c = record { gone = []; few = omega arith; stays = λ t p at. inr (body-stays c t p at) }

pub few-more : (n s : ℕ) (a b c : Core) → LosesFew n a b → KeepsAllBut s b c → LosesFew (n + 1) a c
few-more n s a b c x y = record {
  gone = s ∷ x.gone;
  few = let few = x.few in let more : length (s ∷ x.gone) ≡ suc (length x.gone) = refl in omega arith;
  stays = λ t p at. ⊎_elim (λ g. inl (suc g.0, g.1)) (λ (same : IsSameBody a b t p). ⊎_elim (λ (e : t ≡ s). inl (0, ap Some (sym e))) (λ then. inr (body-then a b c t p same then)) (y t same.at same.place)) (x.stays t p at);
}

pub few-part : (n m : ℕ) (c d : Core) → n ≤ m → LosesFew n c d → LosesFew m c d
few-part n m c d low x = record { gone = x.gone; few = let few = x.few in omega arith; stays = x.stays }

pub goes-on : (i n m : ℕ) (q : Parts) (words entries : ℕ) → n ≤ m → (i < n ⊎ (HasRoom q words entries → ⊥)) → i < m ⊎ (HasRoom q words entries → ⊥)
goes-on i n m q words entries least goes = ⊎_elim (λ (low : i < n). inl (omega arith)) (λ (none : HasRoom q words entries → ⊥). inr none) goes
