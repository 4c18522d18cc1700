mod Plain
