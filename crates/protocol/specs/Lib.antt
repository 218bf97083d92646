-- The definitions: paper 01's sections Columns, Building and Entries, in the paper's order, each with the sentence it states.
-- What is proved of them stands in proofs/; no definition here knows of any code, and none of them assumes anything.
--
-- One column goes through them so:
--
--   CDM bit ──► Rest (is it the fourteenth zero? is it S?) ──► a turn of a phase of Slave, Reader or Account (Machine)
--   0 ──► far slave ──► .. ──► near slave ──► CDS bit          Chain: every slave sees the CDM bit and its far neighbour's bit
--   (CDM, CDS) ──► Reader ──► perhaps an Event                 at its Place an Entry, from two rows alone
--   (CDM, Memory of each slave) ──► Account ──► perhaps an Event     .. of the chain's own account, from no answer
--   Entries ──► Banks: the list, an entry with the bank that the list has shown for its ID
pub mod Limits
pub mod Bits
pub mod Rest
pub mod Machine
pub mod Division
pub mod Header
pub mod Commands
pub mod Memory
pub mod Slave
pub mod Chain
pub mod Building
pub mod Entries
pub mod Banks
pub mod Pieces
pub mod Layout
pub mod Reader
pub mod Account
pub mod Replay
pub mod Understood
pub mod Late
pub mod Text
pub mod Fault
pub mod Channels
pub mod Card
