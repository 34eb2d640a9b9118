use Rattle.cutting.specs.Answers.{request_view_of}
use Rattle.cutting.specs.declared.request.FieldChoice.TheVariants.{Byte, Nibble, Prime}
use Rattle.cutting.proofs.Answering.{input_answered}
use Rattle.cutting.proofs.cut.cut_input.Goals as goal

pub returns-in-Byte : goal.returns-in-Byte
returns-in-Byte c =
    input_answered c.args.input.now Byte (request_view_of c.in_ok-request.request) c.cut_request.result c.in_ok-request.ensures c.in-Byte.is c.cut_request.ensures

pub returns-in-Nibble : goal.returns-in-Nibble
returns-in-Nibble c =
    input_answered c.args.input.now Nibble (request_view_of c.in_ok-request.request) c.cut_request-in-Nibble.result c.in_ok-request.ensures c.in-Nibble.is c.cut_request-in-Nibble.ensures

pub returns-in-Prime : goal.returns-in-Prime
returns-in-Prime c =
    input_answered c.args.input.now Prime (request_view_of c.in_ok-request.request) c.cut_request-in-Prime.result c.in_ok-request.ensures c.in-Prime.is c.cut_request-in-Prime.ensures
