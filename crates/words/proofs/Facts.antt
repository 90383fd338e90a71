-- What crates above may cite of this one's proofs.
pub use Rattle.words.proofs.Items.{digits_text, hex_again, parts_again}
pub use Rattle.words.proofs.Parts.{fits_told, item_fits, parts_are, parts_blank, parts_cut}
