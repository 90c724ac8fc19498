-- One word is taken out of a row of words, and put back. Assumes `Logic`.
use Rattle.std.proofs.Common.{◌≡◌, ℕ, zero, suc, ◌+◌, ◌-◌, ◌*◌, ◌<◌, List, [], ◌∷◌, ◌++◌, length, get_or, set, refl, sym, arith, w16}
use seplogic.Ra.Ura.{Ura}
use base.Fraction.{full_share}
use mir.Syntax.{ty_array, ty_int}
use mir.Val.{vint}
use base.Logic.{ent, sep, via, snd∗}
use base.Fml.{Lft, Fml, fat, froom}
use types.Logic.{Logic, sem}
use types.Kit.{‵, ◌⊛◌, ⋆, ◌$◌, ◌∵◌, !, qed, by, move, keep, use1, use2, split, rewrite, fsplit, fjoin, done}
use denote.Builtin.{u16}
use denote.Index.{row, others, takes, puts, place_is, place as nth}
use denote.Memory.{part_at, shares, shared_of}
use denote.Plain.{uint_in, uint_out}
use denote.Slice.{elements_shared}

module _ {M : Type 1} {𝓤 : Ura M} (𝓛 : Logic 𝓤) (b : ℕ) where
  module _ (o : ℕ) (ws : List ℕ) (i : ℕ) where
    -- the words but for the i-th
    abbrev pub rest : Fml
    rest = others (shares u16) full_share ws i b o

    pub word_out : i < length ws → ent 𝓤 (⋆ 𝓛 (‵ (row u16 full_share ws b o) ∷ [])) (⋆ 𝓛 (‵ (fat full_share (ty_int w16) b (i * 2 + o) (vint w16 (get_or ws i 0))) ∷ ‵ rest ∷ []))
    word_out low =
        qed 𝓛 (‵ (row u16 full_share ws b o) ∷ []) ∵
        use1 𝓛 (‵ (part_at u16 full_share (get_or ws i 0) b (nth 2 o i)) ⊛ ‵ rest) (takes (shares u16) full_share 𝓛 ws i 0 b o low) $ split ! $
        rewrite ! 0 (λ (k : ℕ). ‵ (part_at u16 full_share (get_or ws i 0) b k)) (place_is 2 o i) refl $
        use1 𝓛 (‵ (fat full_share (ty_int w16) b (i * 2 + o) (vint w16 (get_or ws i 0)))) (uint_out 𝓛 full_share w16 (get_or ws i 0) b (i * 2 + o)) $ done !

    pub word_in : (w : ℕ) → i < length ws → ent 𝓤 (⋆ 𝓛 (‵ (fat full_share (ty_int w16) b (i * 2 + o) (vint w16 w)) ∷ ‵ rest ∷ [])) (⋆ 𝓛 (‵ (row u16 full_share (set ws i w) b o) ∷ []))
    word_in w low =
        qed 𝓛 (‵ (fat full_share (ty_int w16) b (i * 2 + o) (vint w16 w)) ∷ ‵ rest ∷ []) ∵
        use1 𝓛 (‵ (part_at u16 full_share w b (i * 2 + o))) (uint_in 𝓛 full_share w16 w b (i * 2 + o)) $
        rewrite ! 0 (λ (k : ℕ). ‵ (part_at u16 full_share w b k)) (sym (place_is 2 o i)) refl $
        by ! (puts (shares u16) full_share 𝓛 ws i w b o low)

  -- what a `&` to words holds of one of them
  pub word_seen : (κ : Lft) (ws : List ℕ) (i o at : ℕ) → at ≡ i * 2 + o → i < length ws → ent 𝓤 (sem 𝓛 (elements_shared u16 ws b o κ)) (sem 𝓛 (shared_of u16 (get_or ws i 0) b at κ))
  word_seen κ [] i o at e low = absurd (omega arith)
  word_seen κ (w ∷ ws) zero o at e low =
      let same : o ≡ at = omega arith in
      qed 𝓛 (‵ (elements_shared u16 (w ∷ ws) b o κ) ∷ []) ∵ fsplit ! $ keep ! (0 ∷ []) $ rewrite ! 0 (λ (k : ℕ). ‵ (shared_of u16 w b k κ)) same refl $ done !
  word_seen κ (w ∷ ws) (suc i) o at e low =
      via 𝓤 (sem 𝓛 (elements_shared u16 ws b (o + 2) κ)) (snd∗ 𝓤 (sem 𝓛 (shared_of u16 w b o κ)) (sem 𝓛 (elements_shared u16 ws b (o + 2) κ))) (word_seen κ ws i (o + 2) at (omega arith) (omega arith))

  -- the words of a row, as room
  pub words_gone : (ws : List ℕ) (o : ℕ) → ent 𝓤 (sem 𝓛 (row u16 full_share ws b o)) (sem 𝓛 (froom (ty_array (ty_int w16) (length ws)) b o))
  words_gone [] o = 𝓛.laws.room_nil (ty_int w16) b o
  words_gone (w ∷ ws) o =
      qed 𝓛 (‵ (row u16 full_share (w ∷ ws) b o) ∷ []) ∵ fsplit ! $
      use1 𝓛 (‵ (fat full_share (ty_int w16) b o (vint w16 w))) (uint_out 𝓛 full_share w16 w b o) $
      use1 𝓛 (‵ (froom (ty_int w16) b o)) (𝓛.laws.at_room (ty_int w16) b o (vint w16 w)) $ move ! (1 ∷ []) $
      use1 𝓛 (‵ (froom (ty_array (ty_int w16) (length ws)) b (o + 2))) (words_gone ws (o + 2)) $ move ! (1 ∷ []) $
      by ! (𝓛.laws.room_cons (ty_int w16) (length ws) b o)

  -- two rooms side by side
  pub rooms_join : (n m o : ℕ) → ent 𝓤 (sep 𝓤 (sem 𝓛 (froom (ty_array (ty_int w16) n) b o)) (sem 𝓛 (froom (ty_array (ty_int w16) m) b (n * 2 + o)))) (sem 𝓛 (froom (ty_array (ty_int w16) (n + m)) b o))
  rooms_join zero m o =
      let same : zero * 2 + o ≡ o = omega arith in
      let all : m ≡ zero + m = omega arith in
      qed 𝓛 (‵ (froom (ty_array (ty_int w16) zero) b o) ∷ ‵ (froom (ty_array (ty_int w16) m) b (zero * 2 + o)) ∷ []) ∵
      move ! (1 ∷ []) $ keep ! (0 ∷ []) $ rewrite ! 0 (λ (k : ℕ). ‵ (froom (ty_array (ty_int w16) m) b k)) same refl $
      rewrite ! 0 (λ (k : ℕ). ‵ (froom (ty_array (ty_int w16) k) b o)) all refl $ done !
  rooms_join (suc n) m o =
      let same : suc n * 2 + o ≡ n * 2 + (o + 2) = omega arith in
      let all : suc (n + m) ≡ suc n + m = omega arith in
      qed 𝓛 (‵ (froom (ty_array (ty_int w16) (suc n)) b o) ∷ ‵ (froom (ty_array (ty_int w16) m) b (suc n * 2 + o)) ∷ []) ∵
      use1 𝓛 (‵ (froom (ty_int w16) b o) ⊛ ‵ (froom (ty_array (ty_int w16) n) b (o + 2))) (𝓛.laws.room_uncons (ty_int w16) n b o) $ split ! $ move ! (2 ∷ []) $
      rewrite ! 0 (λ (k : ℕ). ‵ (froom (ty_array (ty_int w16) m) b k)) same refl $ move ! (2 ∷ 0 ∷ []) $
      use2 𝓛 (‵ (froom (ty_array (ty_int w16) (n + m)) b (o + 2))) (rooms_join n m (o + 2)) $ move ! (1 ∷ 0 ∷ []) $
      use2 𝓛 (‵ (froom (ty_array (ty_int w16) (suc (n + m))) b o)) (𝓛.laws.room_cons (ty_int w16) (n + m) b o) $
      rewrite ! 0 (λ (k : ℕ). ‵ (froom (ty_array (ty_int w16) k) b o)) all refl $ done !

  -- a word is put behind others
  pub word_behind : (w : ℕ) (ws : List ℕ) (i o : ℕ) → i ≡ length ws → ent 𝓤 (sep 𝓤 (sem 𝓛 (row u16 full_share ws b o)) (sem 𝓛 (fat full_share (ty_int w16) b (i * 2 + o) (vint w16 w)))) (sem 𝓛 (row u16 full_share (ws ++ w ∷ []) b o))
  word_behind w [] i o e =
      let same : i * 2 + o ≡ o = omega arith in
      qed 𝓛 (‵ (row u16 full_share [] b o) ∷ ‵ (fat full_share (ty_int w16) b (i * 2 + o) (vint w16 w)) ∷ []) ∵
      move ! (1 ∷ []) $ rewrite ! 0 (λ (k : ℕ). ‵ (fat full_share (ty_int w16) b k (vint w16 w))) same refl $
      use1 𝓛 (‵ (part_at u16 full_share w b o)) (uint_in 𝓛 full_share w16 w b o) $ fjoin ! $ done !
  word_behind w (v ∷ ws) i o e =
      let same : i * 2 + o ≡ (i - 1) * 2 + (o + 2) = omega arith in
      qed 𝓛 (‵ (row u16 full_share (v ∷ ws) b o) ∷ ‵ (fat full_share (ty_int w16) b (i * 2 + o) (vint w16 w)) ∷ []) ∵ fsplit ! $ move ! (2 ∷ []) $
      rewrite ! 0 (λ (k : ℕ). ‵ (fat full_share (ty_int w16) b k (vint w16 w))) same refl $ move ! (2 ∷ 0 ∷ []) $
      use2 𝓛 (‵ (row u16 full_share (ws ++ w ∷ []) b (o + 2))) (word_behind w ws (i - 1) (o + 2) (omega arith)) $ move ! (1 ∷ 0 ∷ []) $ fjoin ! $ done !
