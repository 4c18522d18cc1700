-- What is said of the result of reading a script.
use Rattle.std.specs.Prelude.{ℕ, Result, Err}
use Rattle.flow_script.specs.declared.refusal.ScriptFaultKind.{ScriptFaultKind}
use Rattle.flow_script.specs.declared.refusal.ScriptRefusal.{ScriptRefusal}
use Rattle.flow_script.specs.declared.refusal.ScriptRefusal.TheVariants.{Fault, NoMemory}

abbrev pub fault_of : ℕ → ScriptFaultKind → ScriptRefusal
fault_of number kind = Fault number kind

-- what holds of the fault that is answered
abbrev pub IfFault : {A : Type 0} → Result A ScriptRefusal → (ℕ → ScriptFaultKind → Type 0) → Type 0
IfFault (Err (Fault number kind)) Holds = Holds number kind
IfFault _ Holds = Unit {0}

-- what holds unless memory ran out
abbrev pub UnlessNoMemory : {A : Type 0} → Result A ScriptRefusal → Type 0 → Type 0
UnlessNoMemory (Err NoMemory) Holds = Unit {0}
UnlessNoMemory _ Holds = Holds
