-- What the program has pages on, by number and name
use Rattle.std.specs.Prelude.{ℕ, List, codes}
use Rattle.certificate.specs.Spelling.{cert_fault_name, cert_fault_number}
use Rattle.ownership_rules.specs.Refusal as rules
use Rattle.ownership_rules.specs.RuleNames as rule_names
use Rattle.plan_writer.specs.PlanRefusals.{refusal_name, refusal_number}
use Rattle.trace_reader.specs.Faults.{fault_name, fault_number}
use Rattle.world_state.specs.Harm as harms
use Rattle.world_state.specs.declared.harm.Harm.{Harm}
use Rattle.world_state.specs.declared.harm.Harm.TheVariants.{TakenOutOfOrder, TakenOtherWords, WaitsInsideDescriptor, LooksOutside, PostsOverUnread, InputContextChanged}
use Rattle.rule_pages.specs.declared.subject.Subject.{Subject}
use Rattle.rule_pages.specs.declared.subject.Subject.TheVariants.{Rule, Line, Certificate, Plan, Device, Harm as Harms}

-- the number that is printed
abbrev pub number_of : Subject → ℕ
number_of (Rule rule) = rules.number_of rule
number_of (Line fault) = fault_number fault
number_of (Certificate fault) = cert_fault_number fault
number_of (Plan refusal) = refusal_number refusal
number_of Device = 31
number_of (Harms harm) = harms.number_of harm

-- a harm as it is printed
abbrev pub harm_name : Harm → List ℕ
harm_name TakenOutOfOrder = codes "harm 1"
harm_name TakenOtherWords = codes "harm 2"
harm_name WaitsInsideDescriptor = codes "harm 3"
harm_name LooksOutside = codes "harm 4"
harm_name PostsOverUnread = codes "harm 5"
harm_name InputContextChanged = codes "harm 6"

-- the same in one word
abbrev pub harm_word : Harm → List ℕ
harm_word TakenOutOfOrder = codes "harm-1"
harm_word TakenOtherWords = codes "harm-2"
harm_word WaitsInsideDescriptor = codes "harm-3"
harm_word LooksOutside = codes "harm-4"
harm_word PostsOverUnread = codes "harm-5"
harm_word InputContextChanged = codes "harm-6"

-- the name that is printed behind the number; of a harm the words that are printed in place of both
abbrev pub name_of : Subject → List ℕ
name_of (Rule rule) = rule_names.name_of rule
name_of (Line fault) = fault_name fault
name_of (Certificate fault) = cert_fault_name fault
name_of (Plan refusal) = refusal_name refusal
name_of Device = codes "Device"
name_of (Harms harm) = harm_name harm
