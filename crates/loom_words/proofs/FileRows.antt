-- The files that right words name are those that are read of them, and the words of two that may not be one differ.
use Rattle.std.specs.Prelude.{◌≢◌, ◌⊎◌}
use Rattle.std.proofs.Common.{◌≡◌, ℕ, List, [], ◌∷◌, None, Some, inl, inr, refl, sym, ap, subst, ◌∙◌, codes}
use Rattle.loom_host.specs.declared.outside.Role.{Role}
use Rattle.loom_host.specs.declared.outside.Role.TheVariants.{Image, Events, Work, Saved, Display}
use Rattle.loom_words.proofs.KeptRows.{guard-from_words, resume-from_words, right-kept}
use Rattle.loom_words.proofs.Rows.{flip, is-word, make-from_words, paths-from_words, right-same, row-from_words, trace-from_words}
use Rattle.loom_words.specs.Command.{IsAsked, make_for, paths_for, row_for}
use Rattle.loom_words.specs.Files.{HasFilesApart, roles_named, vault_named}
use Rattle.loom_words.specs.FilesRead.{files_asked, files_kept, vault_kept}
use Rattle.loom_words.specs.Kept.{Else, IsGuard, IsKept, IsResume, KeptVerb, ToGuard, ToResume, bad_kept, bad_kept_as, guard_row_of, kept_verb_of, resume_row_of, vault_of}
use Rattle.loom_words.specs.Words.{ArePaths, IsMake, IsRow, IsTrace, MakeRow, Paths, Row, ToAssemble, ToList, ToMake, ToRun, ToTrace, Verb, bad_in, bad_word, is_asm, is_list, make_of, paths_of, row_asked, row_of, trace_row_of, verb_of}
use Rattle.loom_words.specs.declared.kept.Kept.{Kept}
use Rattle.loom_words.specs.declared.kept.Kept.TheVariants.{Guard, Resume}
use Rattle.loom_words.specs.declared.words.Asked.{Asked}
use Rattle.loom_words.specs.declared.words.Asked.TheVariants.{Assemble, List as Listing, Make, Run, Trace}

-- ---- the files of the words of each command

abbrev of_row : Row → List (Role × List ℕ)
of_row row = (Work, row.work) ∷ (Image, row.image) ∷ (Events, row.events) ∷ (Saved, row.saved) ∷ (Display, row.display) ∷ []

abbrev of_trace : Row → List (Role × List ℕ)
of_trace row = (Work, row.work) ∷ (Image, row.image) ∷ (Events, row.events) ∷ (Saved, row.saved) ∷ []

abbrev of_resume : Row → List (Role × List ℕ)
of_resume row = (Work, row.work) ∷ (Events, row.events) ∷ (Saved, row.saved) ∷ (Display, row.display) ∷ []

abbrev of_paths : Paths → List (Role × List ℕ)
of_paths row = (Work, row.work) ∷ (Image, row.source) ∷ (Saved, row.target) ∷ []

named-run : (words : List (List ℕ)) (row : Row) → IsRow words row → (roles_named words ≡ of_row row) × (vault_named words ≡ None)
named-run words row is = subst (λ ws. (roles_named ws ≡ of_row row) × (vault_named ws ≡ None)) (sym is.words_are) (refl, refl)

named-make : (words : List (List ℕ)) (row : MakeRow) → IsMake words row → (roles_named words ≡ (Saved, row.file) ∷ []) × (vault_named words ≡ None)
named-make words row is = subst (λ ws. (roles_named ws ≡ (Saved, row.file) ∷ []) × (vault_named ws ≡ None)) (sym is.words_are) (refl, refl)

named-list : (words : List (List ℕ)) (row : Paths) → ArePaths (codes "list") words row → (roles_named words ≡ of_paths row) × (vault_named words ≡ None)
named-list words row is = subst (λ ws. (roles_named ws ≡ of_paths row) × (vault_named ws ≡ None)) (sym is.words_are) (refl, refl)

named-asm : (words : List (List ℕ)) (row : Paths) → ArePaths (codes "asm") words row → (roles_named words ≡ of_paths row) × (vault_named words ≡ None)
named-asm words row is = subst (λ ws. (roles_named ws ≡ of_paths row) × (vault_named ws ≡ None)) (sym is.words_are) (refl, refl)

named-trace : (words : List (List ℕ)) (row : Row) → IsTrace words row → (roles_named words ≡ of_trace row) × (vault_named words ≡ None)
named-trace words row is = subst (λ ws. (roles_named ws ≡ of_trace row) × (vault_named ws ≡ None)) (sym is.words_are) (refl, refl)

named-guard : (words : List (List ℕ)) (row : Row) (vault : List ℕ) → IsGuard words row vault → (roles_named words ≡ of_row row) × (vault_named words ≡ Some vault)
named-guard words row vault is = subst (λ ws. (roles_named ws ≡ of_row row) × (vault_named ws ≡ Some vault)) (sym is.words_are) (refl, refl)

named-resume : (words : List (List ℕ)) (row : Row) (vault : List ℕ) → IsResume words row vault → (roles_named words ≡ of_resume row) × (vault_named words ≡ Some vault)
named-resume words row vault is = subst (λ ws. (roles_named ws ≡ of_resume row) × (vault_named ws ≡ Some vault)) (sym is.words_are) (refl, refl)

-- ---- they are those that were read

right-as : (words : List (List ℕ)) (verb : Verb) → bad_word words ≡ None → verb_of words ≡ verb → bad_in (row_asked verb) words ≡ None
right-as words verb right asks = sym (ap (λ v. bad_in (row_asked v) words) asks) ∙ right

pub files-asked : (words : List (List ℕ)) (asked : Asked) → bad_word words ≡ None → IsAsked words asked → (roles_named words ≡ files_asked asked) × (vault_named words ≡ None)
files-asked words (Run c) right is =
    named-run words (row_for c) (subst (λ row. IsRow words row) (sym is.1) (row-from_words words (right-as words ToRun right is.0)))
files-asked words (Make m) right is =
    named-make words (make_for m) (subst (λ row. IsMake words row) (sym is.1) (make-from_words words (right-as words ToMake right is.0)))
files-asked words (Listing c) right is =
    named-list words (paths_for c) (subst (λ row. ArePaths (codes "list") words row) (sym is.1) (paths-from_words is_list (codes "list") words (is-word (codes "list")) (right-as words ToList right is.0)))
files-asked words (Assemble c) right is =
    named-asm words (paths_for c) (subst (λ row. ArePaths (codes "asm") words row) (sym is.1) (paths-from_words is_asm (codes "asm") words (is-word (codes "asm")) (right-as words ToAssemble right is.0)))
files-asked words (Trace c) right is =
    named-trace words (row_for c) (subst (λ row. IsTrace words row) (sym is.1) (trace-from_words words (right-as words ToTrace right is.0)))

right-kept-as : (words : List (List ℕ)) (verb : KeptVerb) → bad_kept words ≡ None → kept_verb_of words ≡ verb → bad_kept_as verb words ≡ None
right-kept-as words verb right asks = sym (ap (λ v. bad_kept_as v words) asks) ∙ right

pub files-kept : (words : List (List ℕ)) (kept : Kept) → bad_kept words ≡ None → IsKept words (Some kept) → (roles_named words ≡ files_kept kept) × (vault_named words ≡ Some (vault_kept kept))
files-kept words (Guard g) right is =
    let found = guard-from_words words (right-kept-as words ToGuard right is.0) in
    named-guard words (row_for g.command) g.vault.now (subst (λ row. IsGuard words row g.vault.now) (sym is.1) (subst (λ vault. IsGuard words (guard_row_of words) vault) (sym is.2) found))
files-kept words (Resume g) right is =
    let found = resume-from_words words (right-kept-as words ToResume right is.0) in
    named-resume words (row_for g.command) g.vault.now (subst (λ row. IsResume words row g.vault.now) (sym is.1) (subst (λ vault. IsResume words (resume_row_of words) vault) (sym is.2) found))

-- ---- they are apart

apart-run : (words : List (List ℕ)) (row : Row) → IsRow words row → HasFilesApart words
apart-run words row is =
    let work = is.work_apart in
    let display = is.display_apart in
    subst (λ ws. HasFilesApart ws) (sym is.words_are) ((work.0, (work.1, (work.2, (work.3, tt)))), ((tt, (tt, (flip row.display row.image display.0, tt))), ((tt, (flip row.display row.events display.1, tt)), ((flip row.display row.saved display.2, tt), (tt, tt)))))

apart-make : (words : List (List ℕ)) (row : MakeRow) → IsMake words row → HasFilesApart words
apart-make words row is =
    subst (λ ws. HasFilesApart ws) (sym is.words_are) (tt, tt)

apart-list : (words : List (List ℕ)) (row : Paths) → ArePaths (codes "list") words row → HasFilesApart words
apart-list words row is =
    subst (λ ws. HasFilesApart ws) (sym is.words_are) ((is.apart.0, (is.apart.1, tt)), ((tt, tt), (tt, tt)))

apart-asm : (words : List (List ℕ)) (row : Paths) → ArePaths (codes "asm") words row → HasFilesApart words
apart-asm words row is =
    subst (λ ws. HasFilesApart ws) (sym is.words_are) ((is.apart.0, (is.apart.1, tt)), ((tt, tt), (tt, tt)))

apart-trace : (words : List (List ℕ)) (row : Row) → IsTrace words row → HasFilesApart words
apart-trace words row is =
    let work = is.work_apart in
    let saved = is.saved_apart in
    subst (λ ws. HasFilesApart ws) (sym is.words_are) ((work.0, (work.1, (work.2, tt))), ((tt, (flip row.saved row.image saved.0, tt)), ((flip row.saved row.events saved.1, tt), (tt, tt))))

apart-guard : (words : List (List ℕ)) (row : Row) (vault : List ℕ) → IsGuard words row vault → HasFilesApart words
apart-guard words row vault is =
    let work = is.work_apart in
    let display = is.display_apart in
    let apart = is.vault_apart in
    subst (λ ws. HasFilesApart ws) (sym is.words_are) ((work.0, (work.1, (work.2, (work.3, (flip vault row.work apart.2, tt))))), ((tt, (tt, (flip row.display row.image display.0, (flip vault row.image apart.0, tt)))), ((tt, (flip row.display row.events display.1, (flip vault row.events apart.1, tt))), ((flip row.display row.saved display.2, (flip vault row.saved apart.3, tt)), ((flip vault row.display apart.4, tt), (tt, tt))))))

apart-resume : (words : List (List ℕ)) (row : Row) (vault : List ℕ) → IsResume words row vault → HasFilesApart words
apart-resume words row vault is =
    let work = is.work_apart in
    let display = is.display_apart in
    let apart = is.vault_apart in
    subst (λ ws. HasFilesApart ws) (sym is.words_are) ((work.0, (work.1, (work.2, (flip vault row.work apart.1, tt)))), ((tt, (flip row.display row.events display.0, (flip vault row.events apart.0, tt))), ((flip row.display row.saved display.1, (flip vault row.saved apart.2, tt)), ((flip vault row.display apart.3, tt), (tt, tt)))))

pub apart-asked : (words : List (List ℕ)) → bad_word words ≡ None → HasFilesApart words
apart-asked words right = go ((right-same words).0 right) where
  go : IsRow words (row_of words) ⊎ (IsMake words (make_of words) ⊎ (ArePaths (codes "list") words (paths_of words) ⊎ (ArePaths (codes "asm") words (paths_of words) ⊎ IsTrace words (trace_row_of words)))) → HasFilesApart words
  go (inl is) = apart-run words (row_of words) is
  go (inr (inl is)) = apart-make words (make_of words) is
  go (inr (inr (inl is))) = apart-list words (paths_of words) is
  go (inr (inr (inr (inl is)))) = apart-asm words (paths_of words) is
  go (inr (inr (inr (inr is)))) = apart-trace words (trace_row_of words) is

pub apart-kept : (words : List (List ℕ)) → bad_kept words ≡ None → kept_verb_of words ≢ Else → HasFilesApart words
apart-kept words right asks = go ((right-kept words).0 right) where
  go : (kept_verb_of words ≡ Else) ⊎ (IsGuard words (guard_row_of words) (vault_of words) ⊎ IsResume words (resume_row_of words) (vault_of words)) → HasFilesApart words
  go (inl other) = absurd (asks other)
  go (inr (inl is)) = apart-guard words (guard_row_of words) (vault_of words) is
  go (inr (inr is)) = apart-resume words (resume_row_of words) (vault_of words) is

pub ruleset named_rules = (files-asked, files-kept)
