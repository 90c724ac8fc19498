use Rattle.std.proofs.Common.{ℕ, List, [], ◌∷◌, slice_index_or, ap, ◌∙◌}
use Rattle.long_names.specs.Record.{four_bytes}
use Rattle.image_format.proofs.opening.Opening.bytes.Goals as goal

abbrev parted : List ℕ → List ℕ → List ℕ → List ℕ
parted a b d =
    76 ∷ 79 ∷ 79 ∷ 77 ∷ slice_index_or a 0 0 ∷ slice_index_or a 1 0 ∷ slice_index_or a 2 0 ∷ slice_index_or a 3 0 ∷ slice_index_or b 0 0 ∷ slice_index_or b 1 0 ∷ slice_index_or b 2 0 ∷ slice_index_or b 3 0 ∷ slice_index_or d 0 0 ∷ slice_index_or d 1 0 ∷ slice_index_or d 2 0 ∷ slice_index_or d 3 0 ∷ []

pub returns : goal.returns
unfolding four_bytes
returns c =
    ap (λ x. parted x c.bytes_of_u32-2.result c.bytes_of_u32-3.result) c.bytes_of_u32.ensures
    ∙ ap (λ x. parted (four_bytes c.args.self.now.version) x c.bytes_of_u32-3.result) c.bytes_of_u32-2.ensures
    ∙ ap (λ x. parted (four_bytes c.args.self.now.version) (four_bytes c.args.self.now.objects) x) c.bytes_of_u32-3.ensures
