-- A resumed run ends before its memory is made: by the stage at which it does, and by the bytes of its image, which are no role's.
use Rattle.std.proofs.Common.{◌≡◌, ℕ, Bool, List, Some, IsTrue, refl, subst}
use Rattle.long_names.specs.Heap.{Heap}
use Rattle.image_format.specs.declared.opening.State.{State as Words}
use Rattle.loom_host.specs.declared.outside.Role.{Role}
use Rattle.loom_host.specs.declared.outside.Role.TheVariants.{Image, Events, Work}
use Rattle.loom_run.specs.Ends.{AttachedOnce, JudgesEvents, JudgesImage, bytes_of}
use Rattle.loom_run.specs.Meanings.{IsLeft, LeavesBut, Meanings}
use Rattle.loom_run.specs.Stages.{Opening, Reading, Listening, Ends, roles_at}
use Rattle.loom_run.specs.Steps.{IsRead, IsRefusal, IsSameFile, Uses}
use Rattle.loom_run.proofs.EndsLaws.{refused-of, refused-since}
use Rattle.loom_run.proofs.JudgedLaws.{reads-listening, reads-opening, reads-reading}
use Rattle.loom_run.proofs.UsesLaws.{left-then, never, uses-listening, uses-opening, uses-reading}
use Rattle.loom_words.specs.Words.{Row}
use Rattle.loom_words.specs.declared.status.Status.{Status}
use Rattle.loom_words.specs.declared.status.Status.TheVariants.{ReadFault}
use Rattle.loom_guard.specs.Steps.{KeptReadEnds}
use Rattle.loom_guard.specs.Ways.{imageless}
use Rattle.loom_guard.proofs.WayLaws.{told-imageless}

never-opening : (status : Status) → Ends Opening status → (count : ℕ) → status ≡ ReadFault Image count → ⊥
never-opening status ends count e = subst (λ (s : Status). Ends Opening s) e ends

never-listening : (status : Status) → Ends Listening status → (count : ℕ) → status ≡ ReadFault Image count → ⊥
never-listening status ends count e = subst (λ (s : Status). Ends Listening s) e ends

-- nothing was done with Image, step by step
pub left-kept : (a b c d : Meanings) → LeavesBut (roles_at Opening) a b → IsLeft Image b c → LeavesBut (roles_at Listening) c d → IsLeft Image a d
left-kept a b c d first left last = left-then Image a c d (left-then Image a b c (first.others Image (λ e. cc, tt)) left) (last.others Image (λ e. cc, tt))

module _ (tells : Role → Bool) (before : Meanings) (row : Row) (image : List ℕ) where
  pub opening-kept : (now : Meanings) (status : Status) → (IsTrue (tells Work) → AttachedOnce row.work (before.roles Work) (now.roles Work)) → LeavesBut (roles_at Opening) before now → IsRefusal tells before now row Opening status
      → KeptReadEnds tells before now row image status
  opening-kept now status attached others refused = record {
    ends = record {
      stage = Opening;
      early = refl;
      uses = uses-opening (imageless tells) row before now attached others;
      refusal = refused-of tells (imageless tells) (told-imageless tells) before now row Opening status refused;
      reads = reads-opening (imageless tells) row now status;
    };
    judges = λ at. absurd (cc);
    right = λ work past. never past;
    never = never-opening status refused.answer;
  }

  module _ (mid now : Meanings) (opened : IsTrue (tells Work) → AttachedOnce row.work (before.roles Work) (mid.roles Work)) (named : IsTrue (tells Work) → (mid.roles Work).name ≡ Some row.work) (first : LeavesBut (roles_at Opening) before mid)
      (file : IsTrue (tells Work) → IsSameFile (mid.roles Work) (now.roles Work)) (others : LeavesBut (roles_at Reading) mid now) where
    pub used-kept : Uses (imageless tells) before now row Reading
    used-kept = uses-reading (imageless tells) row before mid now (uses-opening (imageless tells) row before mid opened first) named (λ told. never told) file others

    pub reading-kept : (status : Status) → IsRefusal tells mid now row Reading status → JudgesImage (tells Work) status row.room image → ((count : ℕ) → status ≡ ReadFault Image count → ⊥) → KeptReadEnds tells before now row image status
    reading-kept status refused judged calm = record {
      ends = record {
        stage = Reading;
        early = refl;
        uses = used-kept;
        refusal = refused-since (imageless tells) before mid now row Reading status first.later (refused-of tells (imageless tells) (told-imageless tells) mid now row Reading status refused);
        reads = reads-reading (imageless tells) row now status used-kept.named (λ told. never told);
      };
      judges = λ at. judged;
      right = λ work past. never past;
      never = calm;
    }

  pub listening-kept : (mid now : Meanings) → Uses (imageless tells) before mid row Reading → (IsTrue (tells Events) → AttachedOnce row.events (mid.roles Events) (now.roles Events)) → LeavesBut (roles_at Listening) mid now
      → (state : Words) (heap : Heap) → (IsTrue (tells Work) → IsRead image row.room state heap) → (status : Status) → IsRefusal tells mid now row Listening status → (IsTrue (tells Events) → JudgesEvents status (bytes_of (now.roles Events)))
      → KeptReadEnds tells before now row image status
  listening-kept mid now used attached others state heap read status refused judges =
      let uses = uses-listening (imageless tells) row before mid now used attached others in
      record {
        ends = record {
          stage = Listening;
          early = refl;
          uses = uses;
          refusal = refused-since (imageless tells) before mid now row Listening status used.later (refused-of tells (imageless tells) (told-imageless tells) mid now row Listening status refused);
          reads = reads-listening (imageless tells) row now status state heap uses.named (λ told. never told) judges;
        };
        judges = λ at. absurd (cc);
        right = λ work past. (let r = read work in record { head = r.head; heap = heap; image = r.image; roomy = r.roomy });
        never = never-listening status refused.answer;
      }
