-- How often calls on a role failed.
use Rattle.std.specs.Prelude.{ℕ}
use Rattle.loom_host.specs.declared.outside.Role.{Role}
use Rattle.loom_host.specs.declared.outside.Role.TheVariants.{Image, Events, Work, Saved, Display, Transcript, Notes}
use Rattle.file_host.specs.declared.faults.Faults.{Faults}

abbrev pub faults_at : Faults → Role → ℕ
faults_at f Image = f.image
faults_at f Events = f.events
faults_at f Work = f.work
faults_at f Saved = f.saved
faults_at f Display = f.display
faults_at f Transcript = f.transcript
faults_at f Notes = f.notes
