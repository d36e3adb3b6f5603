-- A sheet is turned down with its number, or its entries stand first in the lists.
use Rattle.pages.proofs.Answering.{refused_text}
use Rattle.shares.proofs.Printing.{left_text}
use Rattle.shares.proofs.page.answer_text.Goals as goal

pub returns-in-Ok : goal.returns-in-Ok
returns-in-Ok g c = rw (left_text (c.requires.shared_out _ c.in-Ok.is) c.chores-m.ensures.is c.args.number) c.shared_lines.ensures

pub returns-in-Err : goal.returns-in-Err
returns-in-Err g c = rw (refused_text _ _ c.args.number (c.requires.turned_down _ c.in-Err.is)) c.write_refused_line.ensures
