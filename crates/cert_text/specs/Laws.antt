-- What reading answers, and that a text has one answer.
use Rattle.std.specs.Prelude.{◌≡◌, ℕ, List, Result, Ok, Err}
use Rattle.cert_text.specs.declared.certificate.Certificate.{Certificate}
use Rattle.cert_text.specs.declared.place.CertFaultKind.{CertFaultKind}
use Rattle.cert_text.specs.declared.refusal.CertRefusal.{CertRefusal}
use Rattle.cert_text.specs.declared.refusal.CertRefusal.TheVariants.{Fault, NoMemory}
use Rattle.cert_text.specs.Lines.{IsFaulty}
use Rattle.cert_text.specs.Texts.{IsCertificate}

-- the answer is this certificate, unless memory ran out
abbrev pub IsReadAs : Result Certificate CertRefusal → Certificate → Type 0
IsReadAs (Ok read) c = read ≡ c
IsReadAs (Err (Fault n kind)) c = ⊥
IsReadAs (Err NoMemory) c = Unit {0}

-- a refusal tells the first fault, unless memory ran out
abbrev pub IsRefusedAs : List ℕ → CertRefusal → Type 0
IsRefusedAs bytes (Fault n kind) = IsFaulty bytes n kind
IsRefusedAs bytes NoMemory = Unit {0}

-- Bytes are the text of one certificate at most, have one first fault at most, and not both.
pub record HasOneAnswer (bytes : List ℕ) : Type 0 where
  pub one : (c d : Certificate) → IsCertificate bytes c → IsCertificate bytes d → c ≡ d
  pub one_fault : (m n : ℕ) (kind other : CertFaultKind) → IsFaulty bytes m kind → IsFaulty bytes n other → (m ≡ n) × (kind ≡ other)
  pub not_both : (c : Certificate) (n : ℕ) (kind : CertFaultKind) → IsCertificate bytes c → ¬ IsFaulty bytes n kind
