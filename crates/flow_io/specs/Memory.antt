-- A folder and a sink in memory, as contracts see them.
use Rattle.std.specs.Prelude.{◌≡◌, ◌⊎◌, ℕ, ◌<◌, List, length, Contains, refl}
use Rattle.std.specs.Coded.{Coded, code_by, coded×, coded_ℕ, coded_list}
use Rattle.std.specs.FinMap.{code}
use Rattle.flow_io.specs.Contents.{Contents}

-- a folder: its files, the numbers of the calls that fail, the number of the next call, and how many have failed
pub record FolderState : Type 0 where
  pub files : Contents
  pub failing : List ℕ
  pub calls : ℕ
  pub faults : ℕ

-- a sink: the bytes taken, for how many more there is room, and the same three of its calls
pub record SinkState : Type 0 where
  pub written : List ℕ
  pub room : ℕ
  pub failing : List ℕ
  pub calls : ℕ
  pub faults : ℕ

-- the next call on the folder fails
abbrev pub FailsNext : FolderState → Type 0
FailsNext folder = Contains folder.failing folder.calls

-- a write of the piece fails: its number is among those that fail, or no room is left
abbrev pub FailsAt : SinkState → List ℕ → Type 0
FailsAt sink piece = (0 < length piece) × (Contains sink.failing sink.calls ⊎ (sink.room ≡ 0))

-- a folder is stored as its parts, one inside the other
abbrev pub folder_code : Coded FolderState
folder_code =
    code_by (Contents × (List ℕ × (ℕ × ℕ))) (coded× (code (coded_list coded_ℕ) (coded_list coded_ℕ)) (coded× (coded_list coded_ℕ) (coded× coded_ℕ coded_ℕ)))
    (λ f. (f.files, (f.failing, (f.calls, f.faults)))) (λ p. record { files = p.0; failing = p.1.0; calls = p.1.1.0; faults = p.1.1.1 }) (λ _. refl)
