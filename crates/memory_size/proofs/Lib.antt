mod SizeLaws
