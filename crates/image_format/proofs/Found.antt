-- What a decoded record is.
use Rattle.std.proofs.Common.{◌≡◌, ℕ, ◌≤◌, List, ◌++◌, length, take, Ok, Err, sym, ap, subst, ◌∙◌, arith}
use Rattle.std.proofs.lemmas.List.{length-append, take_at}
use Rattle.long_names.specs.declared.object.Rec.{Rec}
use Rattle.image_format.specs.declared.fault.NoRecord.{NoRecord}
use Rattle.image_format.specs.declared.fault.NoRecord.TheVariants.{Halted, Memory}
use Rattle.long_names.specs.Objects.{IsRecord}
use Rattle.long_names.specs.Record.{record_text}
use Rattle.image_format.specs.Reading.{record_at}
use Rattle.image_format.specs.declared.reading.RecMeasure.{RecMeasure}
use Rattle.image_format.specs.Inside.{Decodes, Measures, IsNear, refusal}
use Rattle.image_format.specs.Measured.{IsMeasure}
use Rattle.image_format.specs.Faults.{IsBad, IsPlaced, told}
use Rattle.image_format.proofs.Numbers.{AreBytes, never_ok}
use Rattle.image_format.proofs.Records.{pair_is, record_takes, record_again}
use Rattle.image_format.proofs.Lengths.{longest}
use Rattle.image_format.proofs.Bounds.{IsIn, record_in}

pub record IsFound (bytes : List ℕ) (x : Rec × ℕ) : Type 0 where
  pub text : take x.1 bytes ≡ record_text x.0
  pub len : length (record_text x.0) ≡ x.1
  pub within : x.1 ≤ length bytes
  pub longest : x.1 ≤ 262160
  pub is : IsRecord x.0

pub found : (bytes : List ℕ) (x : Rec × ℕ) → AreBytes bytes → Decodes (Ok x) bytes → IsFound bytes x
found bytes x fits d =
    let t = record_takes bytes (x.0, d.0) fits d.1 in
    let len : length (record_text x.0) ≡ x.1 = omega (arith, ap length t.0, length-append (record_text x.0) d.0, d.2) in
    record {
      text = ap (take x.1) t.0 ∙ take_at (record_text x.0) d.0 x.1 len;
      len = len;
      within = omega (arith, d.2);
      longest = omega (arith, len, longest x.0 t.1);
      is = t.1;
    }

-- and of one that wasn't kept
pub measured : (bytes : List ℕ) (m : RecMeasure) → AreBytes bytes → Measures (Ok m) bytes → IsMeasure bytes m
measured bytes m fits d =
    let f = found bytes (d.0, m.len) fits (d.1, d.2, d.3) in
    record { rec = d.0; is = f.is; text = f.text; len = f.len; within = f.within; longest = f.longest; name = d.4; count = d.5 }

pub only_that : (bytes : List ℕ) (x : Rec × ℕ) (r : Rec) (rest : List ℕ) → Decodes (Ok x) bytes → IsRecord r → bytes ≡ record_text r ++ rest → x.0 ≡ r
only_that bytes x r rest d is e = (pair_is x.0 r d.0 rest (sym d.1 ∙ ap record_at e ∙ record_again r rest is)).0

-- where reading broke off, no record stands
pub never_halted : (bytes : List ℕ) (f : NoRecord) (r : Rec) (rest : List ℕ) → Decodes (Err f) bytes → IsBad {A = Rec × ℕ} (Err (refusal (length bytes) f)) → IsRecord r → bytes ≡ record_text r ++ rest → ⊥
never_halted bytes (Halted h) r rest d bad is e = never_ok h (r, rest) (sym d ∙ ap record_at e ∙ record_again r rest is)
never_halted bytes Memory r rest d bad is e = bad

-- the refusal says where
pub placed : (A : Type 0) (bytes : List ℕ) (f : NoRecord) → Decodes (Err f) bytes → IsPlaced {A = A} (Err (refusal (length bytes) f)) bytes
placed A bytes (Halted h) d = ap (told (length bytes)) d
placed A bytes Memory d = tt

-- and it isn't far from the start
pub near_halt : (bytes : List ℕ) (f : NoRecord) → AreBytes bytes → Decodes (Err f) bytes → IsNear (length bytes) f
near_halt bytes Memory fits d = tt
near_halt bytes (Halted h) fits d = let i = subst (λ r. IsIn (length bytes) 262163 r) d (record_in bytes fits) in (i.0, omega (arith, i.1))
