-- `cbook::allocate_book` meets its contract: a refused book leaves the results alone, any other has them told.
use Rattle.cbook.proofs.Books.{book_refused, tellable, book_told}
use Rattle.cbook.proofs.allocate_book.Goals as goal

pub tell-requires : goal.tell-requires
tell-requires c = tellable c.in-Ok.ensures

pub returns-in-Ok : goal.returns-in-Ok
returns-in-Ok c = book_told c.in-Ok.ensures c.tell.ensures

pub returns-in-Err : goal.returns-in-Err
returns-in-Err c = book_refused c.in-Err.ensures c.from.ensures
