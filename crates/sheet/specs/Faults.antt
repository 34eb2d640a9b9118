-- Layer, number and place of each fault of the sheet layer. Assumes nothing.
use Rattle.checks.specs.declared.fault.Fault.{Fault}
use Rattle.checks.specs.declared.fault.Layer.TheVariants.{Sheet}
use Rattle.sheet.specs.declared.fault.SheetFault.{SheetFault}
use Rattle.sheet.specs.declared.fault.SheetFault.TheVariants.{Count, OtherField, Symbol, Number}

abbrev pub sheet_named : SheetFault → Fault
sheet_named (Count wanted) = record { layer = Sheet; number = 5; place = wanted }
sheet_named (OtherField q) = record { layer = Sheet; number = 6; place = q }
sheet_named (Symbol s) = record { layer = Sheet; number = 7; place = s }
sheet_named (Number n) = record { layer = Sheet; number = 8; place = n }
