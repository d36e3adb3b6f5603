-- What `shares` prints of a sheet.
use Rattle.model.specs.Refusals.{sheet_refusal}
use Rattle.allocation.specs.Final.{final_of}
use Rattle.pages.specs.Printer.{Printer, Unbroken}
use Rattle.shares.specs.Page.{shared_lines}

-- a sheet by its own number, or by the one state in which its run ends
abbrev pub printer : Printer
printer =
    record {
      refusal = sheet_refusal;
      lines = λ s number. shared_lines number (final_of s).moves (final_of s).cuts (final_of s).owners (final_of s).prices;
    }

pub unbroken : Unbroken printer
unbroken s z = z
