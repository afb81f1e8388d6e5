-- The faults of a line by their numbers and names
use Rattle.std.specs.Prelude.{ℕ, List, codes}
use Rattle.trace_reader.specs.declared.fault.LineFault.{LineFault}
use Rattle.trace_reader.specs.declared.fault.LineFault.TheVariants.{Header, Row, Number, Limit, Shape}
use Rattle.trace_reader.specs.declared.fault.LineError.{LineError}
use Rattle.trace_reader.specs.declared.fault.LineError.TheVariants.{Fault, Memory}
use Rattle.segments.specs.declared.fault.ShapeFault.{ShapeFault}
use Rattle.segments.specs.declared.fault.ShapeFault.TheVariants.{Shape as NoShape, Memory as NoMemory}

abbrev pub fault_number : LineFault → ℕ
fault_number Header = 1
fault_number Row = 2
fault_number Number = 3
fault_number Limit = 4
fault_number Shape = 5

-- the name that is printed
abbrev pub fault_name : LineFault → List ℕ
fault_name Header = codes "Header"
fault_name Row = codes "Row"
fault_name Number = codes "Number"
fault_name Limit = codes "Limit"
fault_name Shape = codes "Shape"

-- why segments make no ring, as a fault of their line
abbrev pub error_of : ShapeFault → LineError
error_of NoShape = Fault Shape
error_of NoMemory = Memory
