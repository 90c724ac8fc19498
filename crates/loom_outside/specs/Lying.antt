-- A host in memory whose Work lies once.
use Rattle.std.specs.Prelude.{ℕ, ◌==◌, List, map, Bool, true, false, if◌then◌else◌, bit_xor}
use Rattle.loom_outside.specs.Memory.{roles_of, faults_of, writes_of}
use Rattle.loom_host.specs.Outside.{RoleState}
use Rattle.loom_host.specs.declared.outside.Role.{Role}
use Rattle.loom_host.specs.declared.outside.Role.TheVariants.{Work}
use Rattle.loom_outside.specs.declared.memory.MemoryHost.{MemoryHost}
use Rattle.loom_outside.specs.declared.lying.LyingHost.{LyingHost}

-- all is told but Work
abbrev pub but_work : Role → Bool
but_work Work = false
but_work _ = true

unfoldable pub inner_of : LyingHost → MemoryHost
inner_of h = h.inner

-- how many calls of `read_at` there are until the one that lies; 0 where it has come, or never comes
unfoldable pub until_of : LyingHost → ℕ
until_of h = h.until

unfoldable pub mask_of : LyingHost → ℕ
mask_of h = h.mask

-- what is told is told of the host inside
abbrev pub roles_in : LyingHost → Role → RoleState
roles_in h = roles_of (inner_of h)

abbrev pub faults_in : LyingHost → Role → ℕ
faults_in h = faults_of (inner_of h)

abbrev pub writes_in : LyingHost → ℕ
writes_in h = writes_of (inner_of h)

-- each byte with the mask xored in
abbrev pub masked : ℕ → List ℕ → List ℕ
masked mask bytes = map (λ byte. bit_xor byte mask) bytes

-- what a read gives of these bytes
abbrev pub read_as : LyingHost → List ℕ → List ℕ
read_as h bytes = if until_of h == 1 then masked (mask_of h) bytes else bytes
