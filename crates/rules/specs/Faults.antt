-- What the faults of rules refuse with, questions 2, 3 and 4, and what they are called.
use Rattle.std.specs.Prelude.{ℕ, List, codes}
use Rattle.questions.specs.Asking.{refuse}
use Rattle.questions.specs.declared.Refusal.{Refusal}
use Rattle.tables.specs.Table.{table_refusal, fault_text}
use Rattle.rules.specs.declared.fault.RuleFault.{RuleFault}
use Rattle.rules.specs.declared.fault.RuleFault.TheVariants.{Table, Limit}

abbrev pub rule_refusal : RuleFault → Refusal
rule_refusal (Table f) = table_refusal 2 3 f
rule_refusal Limit = refuse 4

-- what a fault is called
abbrev pub rule_fault_text : RuleFault → List ℕ
rule_fault_text (Table f) = fault_text f
rule_fault_text Limit = codes "the limit is above 8"
