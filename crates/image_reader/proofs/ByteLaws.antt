-- What comes behind bytes is bytes.
use Rattle.std.proofs.Common.{◌≡◌, ℕ, ◌<◌, ◌^◌, List, [], ◌++◌, length, drop_at, refl, subst}
use Rattle.std.specs.Prelude.{All}
use Rattle.std.proofs.lemmas.List.Elements.{All-append, All-drop, All-nil}
use Rattle.image_reader.specs.Window.{AreBytes}

pub bytes-behind : (xs ys : List ℕ) → AreBytes (xs ++ ys) → AreBytes ys
bytes-behind xs ys all = subst (All (λ b. b < 2 ^ 8)) (drop_at xs ys (length xs) refl) (All-drop (λ b. b < 2 ^ 8) (length xs) (xs ++ ys) all)

-- a window's bytes, and what is left behind those of a later one
pub bytes-before : (window later left all : List ℕ) → window ++ left ≡ all → AreBytes window → AreBytes (later ++ left) → AreBytes all
bytes-before window later left all same front back = subst AreBytes same (All-append (λ b. b < 2 ^ 8) window left front (bytes-behind later left back))

pub no-bytes : AreBytes []
no-bytes = All-nil (λ b. b < 2 ^ 8)
