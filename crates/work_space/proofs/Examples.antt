-- Worked values.
use Rattle.std.proofs.Common.{◌≡◌, ℕ, ◌++◌, List, [], ◌∷◌, replicate, Some, None, refl}
use Rattle.byteorder.specs.Endian.{big_bytes}
use Rattle.loom_host.specs.Bytes.{window}
use Rattle.work_space.specs.Blocks.{end_behind, laid_at, link_at, times, times_free, block_size, AreLinked}

-- three blocks: the oldest of 128 bytes, then one of 32, and the newest of 64
abbrev three : List ℕ
three = 1 ∷ 0 ∷ 2 ∷ []

sizes : (block_size 0 ≡ 32) × (block_size 2 ≡ 128) × (block_size 14 ≡ 524288)
sizes = (refl, refl, refl)

places : (laid_at 64 three 64 ≡ Some 2) × (laid_at 64 three 192 ≡ Some 0) × (laid_at 64 three 224 ≡ Some 1) × (end_behind 64 three ≡ 288)
places = (refl, refl, refl, refl)

no_places : (laid_at 64 three 0 ≡ None) × (laid_at 64 three 96 ≡ None) × (laid_at 64 three 288 ≡ None)
no_places = (refl, refl, refl)

-- one is free, and on the list of its class alone; another is out, and on none
on_lists : (times 192 (192 ∷ []) ≡ times_free (Some 0) None 0) × (times 192 [] ≡ times_free (Some 0) None 1) ×
    (times 64 [] ≡ times_free (Some 2) (Some 2) 2)
on_lists = (refl, refl, refl)

-- two free blocks of one class: the first, at 32, has the place 64 in its link, and that block has 0
work : List ℕ
work = replicate 32 7 ++ big_bytes 8 64 ++ replicate 24 7 ++ big_bytes 8 0

links : (link_at work 32 ≡ 64) × (link_at work 64 ≡ 0) × (link_at work 96 ≡ 0)
unfolding link_at window work
links = (refl, refl, refl)

linked : AreLinked (link_at work) 32 (32 ∷ 64 ∷ [])
unfolding link_at window work
linked = (refl, (refl, refl))
