use Rattle.std.proofs.Common.{ℕ, ◌≡◌, ◌≤◌, ◌<◌, ◌-◌, ◌/◌, true}
use Rattle.work_windows.specs.Blanks.{may_hold}
use Rattle.work_windows.proofs.blanks.Blanks.note.Given as goal

-- the pages before this one were noted
abbrev pub invariant-loop-page : goal.invariant-loop-page
invariant-loop-page l = record {
  kept : (page : ℕ) → may_hold l.initial.self page ≡ true → may_hold l.self page ≡ true;
  noted : (k : ℕ) → l.place ≤ k → k / 4096 < l.page → may_hold l.self (k / 4096) ≡ true;
}

abbrev pub decreases-loop-page : goal.decreases-loop-page
decreases-loop-page l = l.end - l.page
