-- What is put into an area, block by block.
use Rattle.std.proofs.Common.{◌≡◌, inl, ℕ, ◌+◌, ◌*◌, ◌/◌, ◌%◌, ◌<◌, ◌≤◌, ◌++◌, List, [], length, length-append, length-take, take, drop, take-append-drop, Result, Ok, Err, OnOk, sym, ap, ap₂, ◌∙◌, append_assoc, arith}
use Rattle.std.proofs.lemmas.List.{append-nil, nil_from_length, take_all, take_at}
use Rattle.std.proofs.lemmas.Nat.{div-add-mod', mod_below}
use Rattle.loom_host.specs.Bytes.{overwritten, window}
use Rattle.loom_host.proofs.Windows.{byte_after_outside, get_or-overwritten, window-overwritten_same}
use Rattle.checkpoint.specs.Layout.{area_in, block_place, image_place}
use Rattle.checkpoint.specs.declared.layout.TheConstants.{BLOCK}
use Rattle.checkpoint.proofs.LayoutLaws.{area_in-more, area_in-same}

-- a byte of the blocks before one stands before it
place-before : (s b j : ℕ) → j < b * BLOCK → image_place s j < block_place s b
place-before s b j below =
    let split : j / BLOCK * BLOCK + j % BLOCK ≡ j = div-add-mod' j BLOCK in
    let rest : j % BLOCK < BLOCK = mod_below j BLOCK (omega arith) in
    go (j / BLOCK) (j % BLOCK) (omega arith) rest where
      go : (c r : ℕ) → c * BLOCK + r < b * BLOCK → r < BLOCK → block_place s c + r < block_place s b
      go c r low within = omega arith

-- a block, or a part of one, written behind others
pub area-written : (w block : List ℕ) (s b : ℕ) → length block ≤ BLOCK
    → area_in (overwritten w (block_place s b) block) s (b * BLOCK + length block) ≡ area_in w s (b * BLOCK) ++ block
area-written w block s b most =
    area_in-more (overwritten w (block_place s b) block) s b (length block) most
    ∙ ap (λ (l : List ℕ). l ++ window (overwritten w (block_place s b) block) (block_place s b) (length block))
    (area_in-same (overwritten w (block_place s b) block) w s (b * BLOCK) (λ j below.
    get_or-overwritten w (block_place s b) block (image_place s j) ∙ byte_after_outside w (block_place s b) block (image_place s j) (inl (place-before s b j below))))
    ∙ ap (λ (l : List ℕ). area_in w s (b * BLOCK) ++ l) (window-overwritten_same w (block_place s b) block)

-- ---- a piece is copied behind the first bytes of a block

taken : (filled : ℕ) (items piece new rest : List ℕ) → filled ≤ length items → new ≡ take filled items ++ (piece ++ rest) → take (filled + length piece) new ≡ take filled items ++ piece
taken filled items piece new rest within is =
    ap (take (filled + length piece)) (is ∙ sym (append_assoc (take filled items) piece rest))
    ∙ take_at (take filled items ++ piece) rest (filled + length piece) (let a = length-append (take filled items) piece in let b = length-take filled items in omega arith)

pub gathered-text : (before items piece new : List ℕ) (filled : ℕ) → filled ≤ length items → new ≡ take filled items ++ (piece ++ drop (filled + length piece) items)
    → before ++ take (filled + length piece) new ≡ (before ++ take filled items) ++ piece
gathered-text before items piece new filled within is =
    ap (λ (l : List ℕ). before ++ l) (taken filled items piece new (drop (filled + length piece) items) within is) ∙ sym (append_assoc before (take filled items) piece)

-- and fills it: it is written
pub full-text : (v w items piece new lent : List ℕ) (s b filled place : ℕ) → filled ≤ length items → length new ≡ BLOCK → filled + length piece ≡ BLOCK
    → new ≡ take filled items ++ (piece ++ drop (filled + length piece) items) → lent ≡ new → place ≡ block_place s b → v ≡ overwritten w place lent
    → area_in v s ((b + 1) * BLOCK) ++ [] ≡ (area_in w s (b * BLOCK) ++ take filled items) ++ piece
full-text v w items piece new lent s b filled place within whole full is lends at written =
    let end : (b + 1) * BLOCK ≡ b * BLOCK + length new = omega arith in
    append-nil (area_in v s ((b + 1) * BLOCK))
    ∙ ap (area_in v s) end
    ∙ ap (λ (l : List ℕ). area_in l s (b * BLOCK + length new)) (written ∙ ap₂ (overwritten w) at lends)
    ∙ area-written w new s b (omega arith)
    ∙ ap (λ (l : List ℕ). area_in w s (b * BLOCK) ++ l) (sym (take_all (filled + length piece) new (omega arith)))
    ∙ gathered-text (area_in w s (b * BLOCK)) items piece new filled within is

-- what is gathered is written
pub finished-text : (v w items piece : List ℕ) (s b filled place : ℕ) → filled ≤ length items → length items ≡ BLOCK → piece ≡ take filled items → place ≡ block_place s b → v ≡ overwritten w place piece
    → area_in v s (b * BLOCK + filled) ≡ area_in w s (b * BLOCK) ++ take filled items
finished-text v w items piece s b filled place within whole is at written =
    let long : length piece ≡ filled = (let e = ap length is in let n = length-take filled items in omega arith) in
    ap (λ n. area_in v s (b * BLOCK + n)) (sym long)
    ∙ ap (λ (l : List ℕ). area_in l s (b * BLOCK + length piece)) (written ∙ ap (λ p. overwritten w p piece) at)
    ∙ area-written w piece s b (omega arith)
    ∙ ap (λ (l : List ℕ). area_in w s (b * BLOCK) ++ l) is

-- ---- one piece after the other

pub rest-text : (now old all rest piece tail before : List ℕ) (n : ℕ) → now ≡ before ++ piece → piece ≡ take n rest → tail ≡ drop n rest → before ++ rest ≡ old ++ all → now ++ tail ≡ old ++ all
rest-text now old all rest piece tail before n is front back so_far =
    ap (λ (l : List ℕ). l ++ tail) is ∙ append_assoc before piece tail
    ∙ ap₂ (λ (p t : List ℕ). before ++ (p ++ t)) front back ∙ ap (λ (l : List ℕ). before ++ l) (take-append-drop n rest) ∙ so_far

pub all-text : (now old all rest : List ℕ) → now ++ rest ≡ old ++ all → length rest ≡ 0 → now ≡ old ++ all
all-text now old all rest is none = sym (append-nil now) ∙ ap (λ (l : List ℕ). now ++ l) (sym (nil_from_length rest none)) ∙ is

pub on_ok_gives : {T E P Q : Type 0} (r : Result T E) → (P → Q) → OnOk r P → OnOk r Q
on_ok_gives (Ok x) gives p = gives p
on_ok_gives (Err e) gives p = tt
