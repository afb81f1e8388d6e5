-- What the rules of a command ask of its input context, by the words of memory: xHCI 4.6.5, 4.6.6, 6.2.3, 6.2.5
use Rattle.std.specs.Prelude.{◌≡◌, ◌<◌, ℕ, ◌%◌, ◌==◌, ◌&&◌, ◌||◌, Bool, false, not, nat_lt, if◌then◌else◌, Some}
use Rattle.std.specs.List.{list_any}
use Rattle.commands.specs.declared.command.Command.{Command}
use Rattle.commands.specs.declared.command.Command.TheVariants.{AddressDevice, ConfigureEndpoint}
use Rattle.commands.specs.declared.state.EndpointState.{EndpointState}
use Rattle.commands.specs.Command.{named_context, named_endpoint}
use Rattle.commands.specs.States.{is_off}
use Rattle.traces.specs.declared.header.Header.{Header}
use Rattle.ring_knowledge.specs.Known.{Known}
use Rattle.ownership_rules.specs.Commands.{takes_bad_device}
use Rattle.contexts.specs.declared.size.ContextSize.{ContextSize}
use Rattle.contexts.specs.Contexts.{added_endpoints, endpoint_streams, endpoint_type, input_add_flag, input_drop_flag, input_endpoint, is_isochronous}

-- the input context that the command names lies on words
abbrev pub IsAligned : Command → Type 0
IsAligned c = (a : ℕ) → named_context c ≡ Some a → a % 4 ≡ 0

-- the endpoint that the command names, if it names one, has an index below 32
abbrev pub NamesLow : Command → Type 0
NamesLow c = (e : ℕ × ℕ) → named_endpoint c ≡ Some e → e.1 < 32

-- it doesn't add the slot context and that of the default control endpoint, or the endpoint has no type
unfoldable pub lacks_control : (ℕ → ℕ) → ContextSize → ℕ → Bool
lacks_control memory size a = not (input_add_flag memory a 0 && input_add_flag memory a 1) || endpoint_type memory (input_endpoint size a 1) == 0

-- endpoint i of slot s has no type in the input context at address a, or is enabled and not dropped
unfoldable pub is_bad_added_in : (ℕ → ℕ → EndpointState) → (ℕ → ℕ) → ContextSize → ℕ → ℕ → ℕ → Bool
is_bad_added_in states memory size s a i =
    endpoint_type memory (input_endpoint size a i) == 0 || not (is_off (states s i) || input_drop_flag memory a i)

-- that of an endpoint that is added
unfoldable pub adds_bad : (ℕ → ℕ → EndpointState) → (ℕ → ℕ) → ContextSize → ℕ → ℕ → Bool
adds_bad states memory size s a = list_any (is_bad_added_in states memory size s a) (added_endpoints memory a)

-- what the input context of a command says breaks a rule
abbrev pub has_bad_content_by : Header → Known → (ℕ → ℕ) → Command → Bool
has_bad_content_by h k memory (AddressDevice s bsr a) = lacks_control memory h.context_size a || takes_bad_device h k s a
has_bad_content_by h k memory (ConfigureEndpoint s dc a) = if dc then false else adds_bad k.endpoint_state memory h.context_size s a
has_bad_content_by h k memory _ = false

-- endpoint i of the input context at address a has streams, or is isochronous where these are left out too
unfoldable pub is_left_out_in : Bool → (ℕ → ℕ) → ContextSize → ℕ → ℕ → Bool
is_left_out_in isochronous memory size a i =
    (is_isochronous (endpoint_type memory (input_endpoint size a i)) && isochronous) || nat_lt 0 (endpoint_streams memory (input_endpoint size a i))

-- that of an endpoint that is added
unfoldable pub adds_left_out : Bool → (ℕ → ℕ) → ContextSize → ℕ → Bool
adds_left_out isochronous memory size a = list_any (is_left_out_in isochronous memory size a) (added_endpoints memory a)

-- the command adds one
abbrev pub is_left_out_by : Bool → (ℕ → ℕ) → ContextSize → Command → Bool
is_left_out_by isochronous memory size (AddressDevice s bsr a) = is_left_out_in isochronous memory size a 1
is_left_out_by isochronous memory size (ConfigureEndpoint s dc a) = if dc then false else adds_left_out isochronous memory size a
is_left_out_by isochronous memory size _ = false
