use Rattle.std.proofs.Common.{◌≡◌, ◌++◌, string_bytes}
use Rattle.std.specs.List.{All}
use Rattle.ej_term.specs.TermPrint as printed
use Rattle.term_heap.specs.View.{terms_in, parts_in, term_of}
use Rattle.term_text.specs.Printing.{pending_text, IsWork, weigh}
use Rattle.term_text.proofs.printer.print.Given as goal

abbrev pub invariant-loop-work : goal.invariant-loop-work
invariant-loop-work l =
    (string_bytes l.out ++ pending_text (parts_in l.heap) (terms_in l.heap) l.pending.items ≡ printed.print (term_of l.heap l.fn.t))
    × All (IsWork (parts_in l.heap) (terms_in l.heap)) l.pending.items

abbrev pub decreases-loop-work : goal.decreases-loop-work
decreases-loop-work l = weigh (parts_in l.heap) (terms_in l.heap) l.pending.items
