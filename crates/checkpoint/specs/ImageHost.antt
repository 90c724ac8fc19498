-- A host whose Image is a slice, as its caller knows it.
use Rattle.std.specs.Prelude.{ℕ, Bool, true, List, [], ◌∷◌, ◌++◌, length, take, drop, Option, None, Some}
use Rattle.loom_host.specs.Outside.{RoleState, at_start}
use Rattle.loom_host.specs.declared.outside.Host.{Ghosts}
use Rattle.loom_host.specs.declared.outside.Role.{Role}
use Rattle.loom_host.specs.declared.outside.Role.TheVariants.{Image}
use Rattle.checkpoint.specs.declared.image_host.ImageHost.{ImageHost}

-- this for Image, and what there is for each other role
abbrev pub with_image : {X : Type 0} → X → (Role → X) → Role → X
with_image x others Image = x
with_image x others role = others role

-- lists one after another, each behind its length
unfoldable pub joined : List (List ℕ) → List ℕ
joined [] = []
joined (list ∷ lists) = length list ∷ (list ++ joined lists)

-- as lists that differ where these do
abbrev pub list_of_number : Option ℕ → List ℕ
list_of_number None = []
list_of_number (Some n) = n ∷ []

abbrev pub list_of_list : Option (List ℕ) → List ℕ
list_of_list None = []
list_of_list (Some list) = 0 ∷ list

-- what is told of a role, part by part
abbrev pub lists_of : RoleState → List (List ℕ)
lists_of s = (s.attaches ∷ []) ∷ (list_of_list s.name ∷ (s.taken ∷ (s.left ∷ (s.put ∷ (list_of_number s.ended ∷ (s.contents ∷ []))))))

-- This loan, what is told of a role, and its count of faults, as one list. Where two of these are equal all three are.
unfoldable pub carried : ℕ → RoleState → ℕ → List ℕ
carried loan s faults = loan ∷ (faults ∷ joined (lists_of s))

-- a slice of which nothing is taken yet, with this in `put`
abbrev pub unread : List ℕ → List ℕ → RoleState
unread put image = record at_start { left = image; put = put }

-- The host inside is held by a loan, and no call is made on its Image. No byte is ever put to Image of the host over it either, so `put` has the
-- name of that loan, with what the host inside tells of Image and the count of its faults: who calls through the clauses of `Host` alone knows
-- by it that it is still the same loan, and that Image inside is as it was.
module _ {H : Type 0} {host : Ghosts H} where
  -- the host inside
  unfoldable pub host_of : ImageHost H host → H
  host_of h = h.host.now

  -- what it tells of Image: each attach of it was refused
  unfoldable pub image_of : ImageHost H host → RoleState
  image_of h = record (unread (carried h.host.ghost_name (host.roles h.host.now Image) (host.faults h.host.now Image)) (drop h.at h.image.now))
      { attaches = h.refused; taken = take h.at h.image.now }

-- what it means, over what the host inside means
module _ {H : Type 0} (host : Ghosts H) where
  abbrev pub tells_over : Role → Bool
  tells_over = with_image true host.tells

  abbrev pub roles_over : ImageHost H host → Role → RoleState
  roles_over h = with_image (image_of h) (host.roles (host_of h))

  abbrev pub faults_over : ImageHost H host → Role → ℕ
  faults_over h = with_image (image_of h).attaches (host.faults (host_of h))

  abbrev pub writes_over : ImageHost H host → ℕ
  writes_over h = host.writes (host_of h)
